-- What follows from the meaning of a script.
use Rattle.std.proofs.Common.{◌≡◌, ◌≢◌, ℕ, ◌<◌, ◌≤◌, List, [], ◌∷◌, ◌++◌, length, Option, Some, None, Result, Ok, Err, Bool, true, false, cond, eqb, eq-eqb, ne_eqb, refl, sym, ap, ◌∙◌, subst, arith, append_assoc, length-append}
use Rattle.std.specs.Prelude.{map}
use Rattle.std.proofs.lemmas.List.{map-append}
use mathlib.Core.List.{IsPrefix}
use mathlib.Core.Logic.{dite}
use native.Mathlib.Decide.{ℕ_discrete}
use Rattle.gate_model.specs.declared.record.Moment.{Moment}
use Rattle.gate_model.specs.declared.record.Record.{Record}
use Rattle.gate_model.specs.declared.submission.Body.{Body}
use Rattle.gate_model.specs.declared.submission.Numbered.{Numbered}
use Rattle.gate_packet.specs.Packet.{reported_body}
use Rattle.gate_packet.specs.Decoding.{is_stale}
use Rattle.gate_replay.specs.SentPacket.{received}
use Rattle.gate_grammar.specs.declared.faults.LineFault.{LineFault}
use Rattle.gate_grammar.specs.Parsing.{text_before}
use Rattle.gate_core.specs.declared.event.Event.{Event}
use Rattle.gate_core.specs.declared.event.Reply.{Reply}
use Rattle.gate_core.specs.declared.event.Reply.TheVariants as reply
use Rattle.gate_core.specs.declared.submit.Refused.{Refused}
use Rattle.gate_core.specs.declared.submit.Refused.TheVariants as refused
use Rattle.gate_core.specs.Limits.{Limits, limits_of, default_quota}
use Rattle.gate_core.specs.Merge.{IsClient, of_client}
use Rattle.gate_core.specs.Legal.{Run, queued, taken, has_joined, reply_after, close_reply, IsLegal}
use Rattle.gate_replay.specs.Allowed.{IsAllowed}
use Rattle.gate_replay.specs.Ending.{with_ends}
use Rattle.gate_replay.specs.laws.Allowing.{legal_allowed}
use Rattle.gate_reader.specs.declared.report.Answer.TheVariants as answer
use Rattle.gate_reader.specs.Report.{answer_line}
use Rattle.gate_replay.specs.declared.script.Step.{Step}
use Rattle.gate_replay.specs.declared.script.Step.TheVariants as step
use Rattle.gate_replay.specs.declared.setup.Setup.{Setup}
use Rattle.gate_replay.specs.declared.script.Script.{Script}
use Rattle.gate_replay.specs.ReplayState.{ReplayState, Heard, prints, submits, shuts_down, body_of_line, is_shutdown, carries_out, records_item, drains, is_session, serves, plays, state_after, Finishes, IsWhole, IsWholeStep, steps_of, IsPlayed}

-- ---- the records' items are those that were taken

abbrev Kept : ReplayState → Type 0
Kept g = map (λ (r : Record). r.item) g.records ≡ taken g.run

kept_recorded : (item : Numbered) (g : ReplayState) → Kept g → Kept (records_item item g)
kept_recorded item g h = map-append (λ (r : Record). r.item) g.records _ ∙ ap (λ (l : List Numbered). l ++ item ∷ []) h

kept_drained : (takes : List (Option Numbered)) (g : ReplayState) → Kept g → Kept (drains takes g)
kept_drained [] g h = h
kept_drained (Some item ∷ takes) g h = kept_drained takes (records_item item g) (kept_recorded item g h)
kept_drained (None ∷ takes) g h = h

kept_submitted : (client : ℕ) (body : Body) (r : Result ℕ Refused) (g : ReplayState) → Kept g → Kept (submits client body r g)
kept_submitted client body (Ok number) g h = h
kept_submitted client body (Err (refused.Closing first given)) g h = h
kept_submitted client body (Err (refused.Spent given)) g h = h
kept_submitted client body (Err (refused.Full given)) g h = h

kept_if : (b : Bool) (x y : ReplayState) → Kept x → Kept y → Kept (cond b x y)
kept_if true x y p q = p
kept_if false x y p q = q

kept_carried : (read : Result Body LineFault) (heard : Heard) (g : ReplayState) → Kept g → Kept (carries_out read heard g)
kept_carried (Err cause) heard g h = h
kept_carried (Ok body) heard g h = kept_if (is_shutdown body) (shuts_down heard.closed g) (submits 2 body heard.reply g) h (kept_submitted 2 body heard.reply g h)

kept_served : (setup : Setup) (step : Step) (heard : Heard) (g : ReplayState) → Kept g → Kept (serves setup step heard g)
kept_served setup (step.Clock moment) heard g h = h
kept_served setup (step.Packet sent) heard g h =
    kept_if (is_stale (received sent).timestamp g.clock.0 setup.age) (prints (answer_line answer.Stale) g) (submits 1 (reported_body (received sent)) heard.reply g) h (kept_submitted 1 (reported_body (received sent)) heard.reply g h)
kept_served setup (step.Line text) heard g h = kept_carried (body_of_line (text_before 10 (text ++ 10 ∷ []))) heard g h
kept_served setup step.Page heard g h = h

kept_played : (setup : Setup) (step : Step) (heard : Heard) (g : ReplayState) → Kept g → Kept (plays setup step heard g)
kept_played setup step heard g h =
    let v : ReplayState = serves setup step heard g in
    let k : Kept v = kept_served setup step heard g h in
    kept_if g.full g (cond (is_session step) (drains heard.takes v) v) h (kept_if (is_session step) (drains heard.takes v) v (kept_drained heard.takes v k) k)

pub items_are_taken : (setup : Setup) (done : List (Step × Heard)) → map (λ (r : Record). r.item) (state_after setup done).records ≡ taken (state_after setup done).run
items_are_taken setup [] = refl
items_are_taken setup ((step, heard) ∷ done) = kept_played setup step heard (state_after setup done) (items_are_taken setup done)

-- ---- one script, one gateway

-- each reply is the one that something tells of the run before and the event
abbrev Obeys : (Run → Event → Reply) → Run → Type 0
Obeys tell [] = Unit {0}
Obeys tell ((event, reply) ∷ run) = (reply ≡ tell run event) × Obeys tell run

legal_obeys : (limits : Limits) (run : Run) → IsLegal limits run → Obeys (reply_after limits) run
legal_obeys limits [] h = tt
legal_obeys limits ((event, reply) ∷ run) h = (h.0, legal_obeys limits run h.1)

-- a run that obeys obeyed before its newest pairs
obeyed_drained : (tell : Run → Event → Reply) (takes : List (Option Numbered)) (g : ReplayState) → Obeys tell (drains takes g).run → Obeys tell g.run
obeyed_drained tell [] g h = h
obeyed_drained tell (Some item ∷ takes) g h = (obeyed_drained tell takes (records_item item g) h).1
obeyed_drained tell (None ∷ takes) g h = h.1

obeyed_submitted : (tell : Run → Event → Reply) (client : ℕ) (body : Body) (r : Result ℕ Refused) (g : ReplayState) → Obeys tell (submits client body r g).run → Obeys tell g.run
obeyed_submitted tell client body (Ok number) g h = h.1.1
obeyed_submitted tell client body (Err (refused.Closing first given)) g h = h.1
obeyed_submitted tell client body (Err (refused.Spent given)) g h = h.1.1
obeyed_submitted tell client body (Err (refused.Full given)) g h = h.1.1

obeyed_if : (tell : Run → Event → Reply) (b : Bool) (x y : ReplayState) (run : Run) → (Obeys tell x.run → Obeys tell run) → (Obeys tell y.run → Obeys tell run) → Obeys tell (cond b x y).run → Obeys tell run
obeyed_if tell true x y run p q h = p h
obeyed_if tell false x y run p q h = q h

obeyed_carried : (tell : Run → Event → Reply) (read : Result Body LineFault) (heard : Heard) (g : ReplayState) → Obeys tell (carries_out read heard g).run → Obeys tell g.run
obeyed_carried tell (Err cause) heard g h = h
obeyed_carried tell (Ok body) heard g h =
    obeyed_if tell (is_shutdown body) (shuts_down heard.closed g) (submits 2 body heard.reply g) g.run (λ k. k.1) (obeyed_submitted tell 2 body heard.reply g) h

obeyed_served : (tell : Run → Event → Reply) (setup : Setup) (step : Step) (heard : Heard) (g : ReplayState) → Obeys tell (serves setup step heard g).run → Obeys tell g.run
obeyed_served tell setup (step.Clock moment) heard g h = h
obeyed_served tell setup (step.Packet sent) heard g h =
    obeyed_if tell (is_stale (received sent).timestamp g.clock.0 setup.age) (prints (answer_line answer.Stale) g) (submits 1 (reported_body (received sent)) heard.reply g) g.run (λ k. k) (obeyed_submitted tell 1 (reported_body (received sent)) heard.reply g) h
obeyed_served tell setup (step.Line text) heard g h = obeyed_carried tell (body_of_line (text_before 10 (text ++ 10 ∷ []))) heard g h
obeyed_served tell setup step.Page heard g h = h

obeyed_played : (tell : Run → Event → Reply) (setup : Setup) (step : Step) (heard : Heard) (g : ReplayState) → Obeys tell (plays setup step heard g).run → Obeys tell g.run
obeyed_played tell setup step heard g h =
    let v : ReplayState = serves setup step heard g in
    obeyed_if tell g.full g (cond (is_session step) (drains heard.takes v) v) g.run (λ k. k)
    (obeyed_if tell (is_session step) (drains heard.takes v) v g.run (λ k. obeyed_served tell setup step heard g (obeyed_drained tell heard.takes v k)) (obeyed_served tell setup step heard g)) h

-- what was answered is what the run before decides
same_submitted : (tell : Run → Event → Reply) (client : ℕ) (body : Body) (a b : Result ℕ Refused) (g : ReplayState) → Obeys tell (submits client body a g).run → Obeys tell (submits client body b g).run → submits client body a g ≡ submits client body b g
same_submitted tell client body (Ok j) (Ok k) g p q = let e : reply.Queued j ≡ reply.Queued k = p.0 ∙ sym q.0 in let same : j ≡ k = cc in ap (λ (n : ℕ). submits client body (Ok n) g) same
same_submitted tell client body (Ok j) (Err (refused.Closing n y)) g p q = let e : reply.Open ≡ reply.Closing n = p.1.0 ∙ sym q.0 in absurd (cc)
same_submitted tell client body (Ok j) (Err (refused.Spent y)) g p q = let e : reply.Queued j ≡ reply.Spent y = p.0 ∙ sym q.0 in absurd (cc)
same_submitted tell client body (Ok j) (Err (refused.Full y)) g p q = let e : reply.Queued j ≡ reply.Full y = p.0 ∙ sym q.0 in absurd (cc)
same_submitted tell client body (Err (refused.Closing m x)) (Ok k) g p q = let e : reply.Closing m ≡ reply.Open = p.0 ∙ sym q.1.0 in absurd (cc)
same_submitted tell client body (Err (refused.Closing m x)) (Err (refused.Closing n y)) g p q = let e : reply.Closing m ≡ reply.Closing n = p.0 ∙ sym q.0 in let same : m ≡ n = cc in ap (λ (first : Moment). submits client body (Err (refused.Closing first x)) g) same
same_submitted tell client body (Err (refused.Closing m x)) (Err (refused.Spent y)) g p q = let e : reply.Closing m ≡ reply.Open = p.0 ∙ sym q.1.0 in absurd (cc)
same_submitted tell client body (Err (refused.Closing m x)) (Err (refused.Full y)) g p q = let e : reply.Closing m ≡ reply.Open = p.0 ∙ sym q.1.0 in absurd (cc)
same_submitted tell client body (Err (refused.Spent x)) (Ok k) g p q = let e : reply.Spent x ≡ reply.Queued k = p.0 ∙ sym q.0 in absurd (cc)
same_submitted tell client body (Err (refused.Spent x)) (Err (refused.Closing n y)) g p q = let e : reply.Open ≡ reply.Closing n = p.1.0 ∙ sym q.0 in absurd (cc)
same_submitted tell client body (Err (refused.Spent x)) (Err (refused.Spent y)) g p q = let e : reply.Spent x ≡ reply.Spent y = p.0 ∙ sym q.0 in let same : x ≡ y = cc in ap (λ (given : Body). submits client body (Err (refused.Spent given)) g) same
same_submitted tell client body (Err (refused.Spent x)) (Err (refused.Full y)) g p q = let e : reply.Spent x ≡ reply.Full y = p.0 ∙ sym q.0 in absurd (cc)
same_submitted tell client body (Err (refused.Full x)) (Ok k) g p q = let e : reply.Full x ≡ reply.Queued k = p.0 ∙ sym q.0 in absurd (cc)
same_submitted tell client body (Err (refused.Full x)) (Err (refused.Closing n y)) g p q = let e : reply.Open ≡ reply.Closing n = p.1.0 ∙ sym q.0 in absurd (cc)
same_submitted tell client body (Err (refused.Full x)) (Err (refused.Spent y)) g p q = let e : reply.Full x ≡ reply.Spent y = p.0 ∙ sym q.0 in absurd (cc)
same_submitted tell client body (Err (refused.Full x)) (Err (refused.Full y)) g p q = let e : reply.Full x ≡ reply.Full y = p.0 ∙ sym q.0 in let same : x ≡ y = cc in ap (λ (given : Body). submits client body (Err (refused.Full given)) g) same

same_close : (x y : Option Moment) → close_reply x ≡ close_reply y → x ≡ y
same_close None None e = refl
same_close None (Some n) e = absurd (cc)
same_close (Some m) None e = absurd (cc)
same_close (Some m) (Some n) e = cc

same_if : (tell : Run → Event → Reply) (b : Bool) (x y u v : ReplayState) → (Obeys tell x.run → Obeys tell u.run → x ≡ u) → (Obeys tell y.run → Obeys tell v.run → y ≡ v) → Obeys tell (cond b x y).run → Obeys tell (cond b u v).run → cond b x y ≡ cond b u v
same_if tell true x y u v f h p q = f p q
same_if tell false x y u v f h p q = h p q

same_carried : (tell : Run → Event → Reply) (read : Result Body LineFault) (a b : Heard) (g : ReplayState) → Obeys tell (carries_out read a g).run → Obeys tell (carries_out read b g).run → carries_out read a g ≡ carries_out read b g
same_carried tell (Err cause) a b g p q = refl
same_carried tell (Ok body) a b g p q =
    same_if tell (is_shutdown body) (shuts_down a.closed g) (submits 2 body a.reply g) (shuts_down b.closed g) (submits 2 body b.reply g)
    (λ l m. ap (λ (x : Option Moment). shuts_down x g) (same_close a.closed b.closed (l.0 ∙ sym m.0))) (same_submitted tell 2 body a.reply b.reply g) p q

same_served : (tell : Run → Event → Reply) (setup : Setup) (step : Step) (a b : Heard) (g : ReplayState) → Obeys tell (serves setup step a g).run → Obeys tell (serves setup step b g).run → serves setup step a g ≡ serves setup step b g
same_served tell setup (step.Clock moment) a b g p q = refl
same_served tell setup (step.Packet sent) a b g p q =
    same_if tell (is_stale (received sent).timestamp g.clock.0 setup.age) (prints (answer_line answer.Stale) g) (submits 1 (reported_body (received sent)) a.reply g) (prints (answer_line answer.Stale) g) (submits 1 (reported_body (received sent)) b.reply g)
    (λ l m. refl) (same_submitted tell 1 (reported_body (received sent)) a.reply b.reply g) p q
same_served tell setup (step.Line text) a b g p q = same_carried tell (body_of_line (text_before 10 (text ++ 10 ∷ []))) a b g p q
same_served tell setup step.Page a b g p q = refl

same_drained : (tell : Run → Event → Reply) (limit : ℕ) (xs ys : List (Option Numbered)) (g : ReplayState) → Finishes limit xs g → Finishes limit ys g → Obeys tell (drains xs g).run → Obeys tell (drains ys g).run → drains xs g ≡ drains ys g
same_drained tell limit [] [] g f h p q = refl
same_drained tell limit [] (Some y ∷ ys) g f h p q = let full : limit ≤ length g.records = f h.0 in let room : length g.records < limit = h.1 in absurd (omega (arith, full, room))
same_drained tell limit [] (None ∷ ys) g f h p q = let full : limit ≤ length g.records = f h.0 in let room : length g.records < limit = h.1 in absurd (omega (arith, full, room))
same_drained tell limit (Some x ∷ xs) [] g f h p q = let full : limit ≤ length g.records = h f.0 in let room : length g.records < limit = f.1 in absurd (omega (arith, full, room))
same_drained tell limit (None ∷ xs) [] g f h p q = let full : limit ≤ length g.records = h f.0 in let room : length g.records < limit = f.1 in absurd (omega (arith, full, room))
same_drained tell limit (None ∷ xs) (None ∷ ys) g f h p q = refl
same_drained tell limit (Some x ∷ xs) (None ∷ ys) g f h p q =
    let e : reply.Taken x ≡ reply.Empty = (obeyed_drained tell xs (records_item x g) p).0 ∙ sym q.0 in absurd (cc)
same_drained tell limit (None ∷ xs) (Some y ∷ ys) g f h p q =
    let e : reply.Taken y ≡ reply.Empty = (obeyed_drained tell ys (records_item y g) q).0 ∙ sym p.0 in absurd (cc)
same_drained tell limit (Some x ∷ xs) (Some y ∷ ys) g f h p q =
    let e : reply.Taken x ≡ reply.Taken y = (obeyed_drained tell xs (records_item x g) p).0 ∙ sym (obeyed_drained tell ys (records_item y g) q).0 in
    let is : y ≡ x = cc in
    let same : records_item y g ≡ records_item x g = ap (λ (i : Numbered). records_item i g) is in
    same_drained tell limit xs ys (records_item x g) f.2 (subst (λ (v : ReplayState). Finishes limit ys v) same h.2) p (subst (λ (v : ReplayState). Obeys tell (drains ys v).run) same q)
    ∙ ap (λ (v : ReplayState). drains ys v) (sym same)

same_played : (tell : Run → Event → Reply) (setup : Setup) (step : Step) (a b : Heard) (g : ReplayState) → IsWholeStep setup step a g → IsWholeStep setup step b g → Obeys tell (plays setup step a g).run → Obeys tell (plays setup step b g).run → plays setup step a g ≡ plays setup step b g
same_played tell setup step a b g v w p q = go g.full (is_session step) v w p q
  where
    go : (full session : Bool) → (full ≡ false → session ≡ true → Finishes setup.limit a.takes (serves setup step a g)) → (full ≡ false → session ≡ true → Finishes setup.limit b.takes (serves setup step b g))
        → Obeys tell (cond full g (cond session (drains a.takes (serves setup step a g)) (serves setup step a g))).run
        → Obeys tell (cond full g (cond session (drains b.takes (serves setup step b g)) (serves setup step b g))).run
        → cond full g (cond session (drains a.takes (serves setup step a g)) (serves setup step a g)) ≡ cond full g (cond session (drains b.takes (serves setup step b g)) (serves setup step b g))
    go true session f h l m = refl
    go false true f h l m =
        let x : ReplayState = serves setup step a g in
        let y : ReplayState = serves setup step b g in
        let same : y ≡ x = sym (same_served tell setup step a b g (obeyed_drained tell a.takes x l) (obeyed_drained tell b.takes y m)) in
        same_drained tell setup.limit a.takes b.takes x (f refl refl) (subst (λ (u : ReplayState). Finishes setup.limit b.takes u) same (h refl refl)) l (subst (λ (u : ReplayState). Obeys tell (drains b.takes u).run) same m)
        ∙ ap (λ (u : ReplayState). drains b.takes u) (sym same)
    go false false f h l m = same_served tell setup step a b g l m

one_gateway : (tell : Run → Event → Reply) (setup : Setup) (done other : List (Step × Heard)) → steps_of done ≡ steps_of other → IsWhole setup done → IsWhole setup other
    → Obeys tell (state_after setup done).run → Obeys tell (state_after setup other).run → state_after setup done ≡ state_after setup other
one_gateway tell setup [] [] e v w p q = refl
one_gateway tell setup [] (y ∷ ys) e v w p q = absurd (cc)
one_gateway tell setup (x ∷ xs) [] e v w p q = absurd (cc)
one_gateway tell setup ((s, a) ∷ xs) ((t, b) ∷ ys) e v w p q =
    let first : t ≡ s = cc in
    let rest : steps_of xs ≡ steps_of ys = cc in
    let x : ReplayState = state_after setup xs in
    let y : ReplayState = state_after setup ys in
    let below : y ≡ x = sym (one_gateway tell setup xs ys rest v.1 w.1 (obeyed_played tell setup s a x p) (obeyed_played tell setup t b y q)) in
    let now : plays setup t b y ≡ plays setup s b x = ap (λ (u : Step). plays setup u b y) first ∙ ap (λ (u : ReplayState). plays setup s b u) below in
    let whole : IsWholeStep setup s b x = subst (λ (u : ReplayState). IsWholeStep setup s b u) below (subst (λ (u : Step). IsWholeStep setup u b y) first w.0) in
    same_played tell setup s a b x v.0 whole p (subst (λ (u : ReplayState). Obeys tell u.run) now q) ∙ sym now

-- what a run itself tells: the reply that stands before so many pairs
abbrev told_by : Run → Run → Event → Reply
told_by [] run event = reply.Empty
told_by ((event, reply) ∷ rest) run asked = cond (eqb (length rest) (length run)) reply (told_by rest run asked)

told_there : (pre run : Run) (event : Event) (r : Reply) → r ≡ told_by (pre ++ (event, r) ∷ run) run event
told_there [] run event r = sym (ap (λ b. cond b r (told_by run run event)) (eq-eqb (length run) (length run) refl))
told_there ((e, s) ∷ pre) run event r =
    let apart : length (pre ++ (event, r) ∷ run) ≢ length run = λ is. omega (arith, is, length-append pre ((event, r) ∷ run)) in
    told_there pre run event r ∙ sym (ap (λ b. cond b s (told_by (pre ++ (event, r) ∷ run) run event)) (ne_eqb (length (pre ++ (event, r) ∷ run)) (length run) apart))

obeys_itself : (pre run : Run) → Obeys (told_by (pre ++ run)) run
obeys_itself pre [] = tt
obeys_itself pre ((event, r) ∷ run) =
    (told_there pre run event r, subst (λ (all : Run). Obeys (told_by all) run) (append_assoc pre ((event, r) ∷ []) run) (obeys_itself (pre ++ (event, r) ∷ []) run))

-- a script and a run make one gateway, over whatever queue
pub one_run : (setup : Setup) (done other : List (Step × Heard)) → steps_of done ≡ steps_of other → IsWhole setup done → IsWhole setup other
    → (state_after setup done).run ≡ (state_after setup other).run → state_after setup done ≡ state_after setup other
one_run setup done other e v w same =
    let run : Run = (state_after setup done).run in
    one_gateway (told_by run) setup done other e v w (obeys_itself [] run) (subst (λ (r : Run). Obeys (told_by run) r) same (obeys_itself [] run))

-- a run was legal before the ends
before_ends : (limits : Limits) (run : Run) → IsLegal limits (with_ends run) → IsLegal limits run
before_ends limits run h = h.1.1.1.1

-- a script leads to one gateway
pub one_played : (script : Script) (one other : ReplayState) → IsPlayed IsLegal script one → IsPlayed IsLegal script other → one ≡ other
one_played script one other p q =
    let limits : Limits = limits_of 2 default_quota script.setup.capacity in
    p.is ∙ one_gateway (reply_after limits) script.setup p.done q.done (p.steps_are ∙ sym q.steps_are) p.whole q.whole
    (legal_obeys limits (state_after script.setup p.done).run (subst (λ (u : ReplayState). IsLegal limits u.run) p.is (before_ends limits one.run p.kept))) (legal_obeys limits (state_after script.setup q.done).run (subst (λ (u : ReplayState). IsLegal limits u.run) q.is (before_ends limits other.run q.kept))) ∙ sym q.is

-- a World's replay is one that a gate may answer
pub played_allowed : (script : Script) (g : ReplayState) → IsPlayed IsLegal script g → IsPlayed IsAllowed script g
played_allowed script g h = record { done = h.done; steps_are = h.steps_are; whole = h.whole; is = h.is; kept = legal_allowed (limits_of 2 default_quota script.setup.capacity) (with_ends g.run) h.kept }

-- both clients are taken in at the end
both_joined : (run : Run) (client : ℕ) → IsClient 2 client → has_joined client (with_ends run) ≡ true
both_joined run client i =
    let low = i.0 in
    let high = i.1 in
    dite (ℕ_discrete client 1) (λ (e : client ≡ 1). subst (λ c. has_joined c (with_ends run) ≡ true) (sym e) refl)
    (λ ne. let two : client ≡ 2 = omega (arith, low, high, ne) in subst (λ c. has_joined c (with_ends run) ≡ true) (sym two) refl)

-- what was recorded of a client begins what was queued for it
pub records_begin : (script : Script) (g : ReplayState) (client : ℕ) → IsPlayed IsAllowed script g → IsClient 2 client → IsPrefix (of_client client (map (λ (r : Record). r.item) g.records)) (queued client g.run)
records_begin script g client h i =
    let items : map (λ (r : Record). r.item) g.records ≡ taken g.run = subst (λ (u : ReplayState). map (λ (r : Record). r.item) u.records ≡ taken u.run) (sym h.is) (items_are_taken script.setup h.done) in
    subst (λ (l : List Numbered). IsPrefix (of_client client l) (queued client g.run)) (sym items) (h.kept.1 client (both_joined g.run client i))
