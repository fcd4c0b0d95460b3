-- A drain, take by take.
use Rattle.std.proofs.Common.{◌≡◌, ◌≢◌, ℕ, ◌+◌, ◌-◌, ◌<◌, ◌≤◌, List, [], ◌∷◌, ◌++◌, length, Option, Some, None, Bool, true, false, refl, sym, ap, ◌∙◌, subst, arith, length-append}
use Rattle.std.specs.Prelude.{nat_lt}
use Rattle.gate_model.specs.declared.record.Moment.{Moment}
use Rattle.gate_model.specs.declared.record.Record.{Record}
use Rattle.gate_model.specs.declared.submission.Numbered.{Numbered}
use Rattle.gate_model.specs.Record.{later}
use Rattle.gate_core.specs.declared.event.Event.TheVariants.{Take}
use Rattle.gate_core.specs.Legal.{take_reply}
use Rattle.gate_applier.specs.Applier.{ApplierView}
use Rattle.gate_streams.specs.Sink.{SinkState}
use Rattle.gate_replay.specs.declared.player.Player.{Player}
use Rattle.gate_replay.specs.declared.player.Stopped.{Stopped}
use Rattle.gate_replay.specs.declared.player.Stopped.TheVariants as stopped
use Rattle.gate_replay.specs.ReplayState.{ReplayState, records_item, drains, number_queued, Finishes, BeginsDrain}
use Rattle.gate_replay.proofs.SoloSteps.{records_on}
use Rattle.gate_replay.specs.inner.Playing.{SoloView, Extends, IsEnded, Setting, Shows, FindsFull, Takes, TakesItem, TakesNothing, DrainsTo, DrainsFrom, Stays, Ends, StopsPreparing, StopsTaking, StopsDraining}

-- whatever is so of a drain from g is so of one from start
abbrev pub Leads : (List (Option Numbered) → ReplayState → Type 0) → ReplayState → ReplayState → Type 0
Leads P start g = (takes : List (Option Numbered)) → P takes g
    → (more : List (Option Numbered)) × P more start × (drains more start ≡ drains takes g)

-- a player has come this far in a drain
pub record Reaches {D : Type 0} (view : SoloView D) (s : Setting) (player : Player D) (output : SinkState) (start : ReplayState) : Type 0 where
  pub g : ReplayState
  pub shows : Shows view s player output g
  pub leads : Leads (Finishes s.setup.limit) start g
  pub begins : Leads (BeginsDrain s.setup.limit) start g

abbrev pub DrainsOn : {D : Type 0} → SoloView D → Player D → Player D → Type 0
DrainsOn view was now = (s : Setting) (output : SinkState) (g : ReplayState) → Shows view s was output g → Reaches view s now output g

pub drains_self : {D : Type 0} (view : SoloView D) (player : Player D) → DrainsOn view player player
drains_self view player s output g h = record { g = g; shows = h; leads = λ takes f. (takes, f, refl); begins = λ takes f. (takes, f, refl) }

not_left : (m n : ℕ) → n ≤ m → nat_lt m n ≡ false
not_left m n h = grind arith

is_left : (m n : ℕ) → m < n → nat_lt m n ≡ true
is_left m n h = grind arith

-- an item is left to be recorded
left_in : {D : Type 0} (view : SoloView D) (s : Setting) (now : Player D) (output : SinkState) (g : ReplayState) → Shows view s now output g → length now.applier.records < now.queued → length g.records < number_queued g.run
left_in view s now output g h some = omega (arith, h.queued, ap length h.applier.records)

below_limit : {D : Type 0} (view : SoloView D) (s : Setting) (now : Player D) (output : SinkState) (g : ReplayState) → Shows view s now output g → length now.applier.records ≤ now.applier.limit → length now.applier.records ≢ now.applier.limit → length g.records < s.setup.limit
below_limit view s now output g h few room =
    let there : length now.applier.records < now.applier.limit = omega (arith, few, room) in
    omega (arith, there, h.applier.limit, ap length h.applier.records)

-- no item is left
pub drains_none : {D : Type 0} (view : SoloView D) (was now : Player D) → now.queued ≤ length now.applier.records → DrainsOn view was now → DrainsFrom view was now
drains_none {D} view was now none on s output g h =
    let r : Reaches view s now output g = on s output g h in
    let zero_left : number_queued r.g.run ≤ length r.g.records = omega (arith, none, r.shows.queued, ap length r.shows.applier.records) in
    let more = r.leads [] (λ some. absurd (omega (arith, zero_left, some))) in
    let same : drains [] r.g ≡ record r.g { full = false } = ap (λ b. record r.g { full = b }) (not_left (length r.g.records) (number_queued r.g.run) zero_left) in
    record {
      takes = more.0;
      whole = more.1;
      ends = subst (λ (x : ReplayState). Shows view s now output x) (sym (more.2 ∙ same)) (record {
        holds = r.shows.holds;
        applier = record { table = r.shows.applier.table; opening = r.shows.applier.opening; limit = r.shows.applier.limit; records = r.shows.applier.records };
        moment = r.shows.moment;
        clock = r.shows.clock;
        age = r.shows.age;
        queued = r.shows.queued;
        printed = r.shows.printed;
        running = refl;
      });
    }

-- the log is full, and an item is left
pub drains_full : {D E : Type 0} (view : SoloView D) (ended : SoloView E) (was now : Player D) (kept : ApplierView) → length now.applier.records < now.queued → FindsFull view ended now kept → DrainsOn view was now
    → (s : Setting) (output : SinkState) (g : ReplayState) → Shows view s was output g → DrainsTo Finishes (Ends ended s kept output) s.setup.limit g
drains_full {D} view ended was now kept some found on s output g h =
    let r : Reaches view s now output g = on s output g h in
    let left : length r.g.records < number_queued r.g.run = left_in view s now output r.g r.shows some in
    let at_limit : s.setup.limit ≤ length r.g.records = omega (arith, found.full, r.shows.applier.limit, ap length r.shows.applier.records) in
    let more = r.leads [] (λ _. at_limit) in
    let same : drains [] r.g ≡ record r.g { full = true } = ap (λ b. record r.g { full = b }) (is_left (length r.g.records) (number_queued r.g.run) left) in
    record {
      takes = more.0;
      whole = more.1;
      ends = subst (λ (x : ReplayState). Ends ended s kept output x) (sym (more.2 ∙ same)) (record {
        kept = record { queue = found.is_ended.rest; after = found.is_ended.after r.g.run r.shows.holds.after; limits_are = found.is_ended.limits_are ∙ r.shows.holds.limits };
        shown = records_on s.setup now.applier kept r.g (record r.g { full = true }) (subst (λ (v : ApplierView). v ≡ record now.applier { moment = v.moment; room = v.room }) (sym found.applier) refl) refl r.shows.applier;
        printed = r.shows.printed;
        full = refl;
      });
    }

-- a take found nothing
pub drains_missed : {D : Type 0} (view : SoloView D) (was now next : Player D) → length now.applier.records < now.queued → length now.applier.records ≤ now.applier.limit → Takes view now next false → DrainsOn view was now
    → DrainsFrom view was next
drains_missed {D} view was now next some few t on s output g h =
    let r : Reaches view s now output g = on s output g h in
    let nothing : TakesNothing view now next = t.turn in
    let more = r.leads (None ∷ []) (left_in view s now output r.g r.shows some, below_limit view s now output r.g r.shows few t.room, refl) in
    record {
      takes = more.0;
      whole = more.1;
      ends = subst (λ (x : ReplayState). Shows view s next output x) (sym more.2) (record {
        holds = record {
          after = nothing.taken r.g.run r.shows.holds.after;
          limits = t.limits ∙ r.shows.holds.limits;
        };
        applier = record {
          table = t.table ∙ r.shows.applier.table;
          opening = t.opening ∙ r.shows.applier.opening;
          limit = t.limit ∙ r.shows.applier.limit;
          records = nothing.records ∙ r.shows.applier.records;
        };
        moment = nothing.moment ∙ r.shows.moment;
        clock = t.clock ∙ r.shows.clock;
        age = t.age ∙ r.shows.age;
        queued = t.queued ∙ r.shows.queued;
        printed = r.shows.printed;
        running = r.shows.running;
      });
    }

-- an item was taken and recorded
pub drains_more : {D : Type 0} (view : SoloView D) (was now next : Player D) → length now.applier.records < now.queued → length now.applier.records ≤ now.applier.limit → Takes view now next true → DrainsOn view was now → DrainsOn view was next
drains_more {D} view was now next some few t on s output g h =
    let r : Reaches view s now output g = on s output g h in
    let item : Numbered = t.turn.0 in
    let one : TakesItem view now next item = t.turn.1 in
    let moment_is : later now.applier.moment now.clock ≡ later r.g.moment r.g.clock = cc (r.shows.moment, r.shows.clock) in
    let records_are : next.applier.records ≡ r.g.records ++ record { moment = later r.g.moment r.g.clock; item = item } ∷ [] =
    one.records ∙ ap (λ (l : List Record). l ++ record { moment = later now.applier.moment now.clock; item = item } ∷ []) r.shows.applier.records
    ∙ ap (λ (m : Moment). r.g.records ++ record { moment = m; item = item } ∷ []) moment_is in
    record {
      g = records_item item r.g;
      shows = record {
        holds = record {
          after = one.taken r.g.run r.shows.holds.after;
          limits = t.limits ∙ r.shows.holds.limits;
        };
        applier = record {
          table = t.table ∙ r.shows.applier.table;
          opening = t.opening ∙ r.shows.applier.opening;
          limit = t.limit ∙ r.shows.applier.limit;
          records = records_are;
        };
        moment = one.moment ∙ moment_is;
        clock = t.clock ∙ r.shows.clock;
        age = t.age ∙ r.shows.age;
        queued = t.queued ∙ r.shows.queued;
        printed = r.shows.printed;
        running = r.shows.running;
      };
      leads = λ takes f. r.leads (Some item ∷ takes) (left_in view s now output r.g r.shows some, below_limit view s now output r.g r.shows few t.room, f);
      begins = λ takes f. r.begins (Some item ∷ takes) (left_in view s now output r.g r.shows some, below_limit view s now output r.g r.shows few t.room, f);
    }

-- ---- one turn

pub takes_item : {D : Type 0} (view : SoloView D) (was now : Player D) (ready next : ApplierView) (found : Option Numbered) (item : Numbered) → found ≡ Some item → length was.applier.records ≢ was.applier.limit → ready ≡ record was.applier { room = ready.room }
    → Extends view was.queue Take (take_reply found) now.queue → view.limits now.queue ≡ view.limits was.queue → next.records ≡ ready.records ++ record { moment = later ready.moment was.clock; item = item } ∷ [] → next.moment ≡ later ready.moment was.clock
    → next.table ≡ ready.table → next.opening ≡ ready.opening → next.limit ≡ ready.limit → now.applier ≡ next → now.clock ≡ was.clock → now.age ≡ was.age → now.queued ≡ was.queued → Takes view was now true
takes_item {D} view was now ready next found item found_is room is taken limits records moment table opening limit next_is clock age queued =
    let moment_is : ready.moment ≡ was.applier.moment = ap (λ (v : ApplierView). v.moment) is in
    let records_are : ready.records ≡ was.applier.records = ap (λ (v : ApplierView). v.records) is in
    let later_is : later ready.moment was.clock ≡ later was.applier.moment was.clock = ap (λ (m : Moment). later m was.clock) moment_is in
    record {
      room = room;
      limits = limits;
      table = ap (λ (v : ApplierView). v.table) next_is ∙ table ∙ ap (λ (v : ApplierView). v.table) is;
      opening = ap (λ (v : ApplierView). v.opening) next_is ∙ opening ∙ ap (λ (v : ApplierView). v.opening) is;
      limit = ap (λ (v : ApplierView). v.limit) next_is ∙ limit ∙ ap (λ (v : ApplierView). v.limit) is;
      clock = clock;
      age = age;
      queued = queued;
      turn = (
        item,
        record {
          taken = subst (λ (o : Option Numbered). Extends view was.queue Take (take_reply o) now.queue) found_is taken;
          records = ap (λ (v : ApplierView). v.records) next_is ∙ records ∙ ap (λ (l : List Record). l ++ record { moment = later ready.moment was.clock; item = item } ∷ []) records_are
              ∙ ap (λ (m : Moment). was.applier.records ++ record { moment = m; item = item } ∷ []) later_is;
          moment = ap (λ (v : ApplierView). v.moment) next_is ∙ moment ∙ later_is;
        },
      );
    }

pub takes_nothing : {D : Type 0} (view : SoloView D) (was now : Player D) (ready : ApplierView) (found : Option Numbered) → found ≡ None → length was.applier.records ≢ was.applier.limit → ready ≡ record was.applier { room = ready.room }
    → Extends view was.queue Take (take_reply found) now.queue → view.limits now.queue ≡ view.limits was.queue → now.applier ≡ ready → now.clock ≡ was.clock → now.age ≡ was.age → now.queued ≡ was.queued → Takes view was now false
takes_nothing {D} view was now ready found found_is room is taken limits ready_is clock age queued = record {
  room = room;
  limits = limits;
  table = ap (λ (v : ApplierView). v.table) ready_is ∙ ap (λ (v : ApplierView). v.table) is;
  opening = ap (λ (v : ApplierView). v.opening) ready_is ∙ ap (λ (v : ApplierView). v.opening) is;
  limit = ap (λ (v : ApplierView). v.limit) ready_is ∙ ap (λ (v : ApplierView). v.limit) is;
  clock = clock;
  age = age;
  queued = queued;
  turn = record {
    taken = subst (λ (o : Option Numbered). Extends view was.queue Take (take_reply o) now.queue) found_is taken;
    records = ap (λ (v : ApplierView). v.records) ready_is ∙ ap (λ (v : ApplierView). v.records) is;
    moment = ap (λ (v : ApplierView). v.moment) ready_is ∙ ap (λ (v : ApplierView). v.moment) is;
  };
}

-- a turn that recorded an item left fewer
pub fewer_left : {D : Type 0} (view : SoloView D) (was now : Player D) → length was.applier.records < was.queued → Takes view was now true → now.queued - length now.applier.records < was.queued - length was.applier.records
fewer_left {D} view was now some t =
    let one : TakesItem view was now t.turn.0 = t.turn.1 in
    let longer : length now.applier.records ≡ length was.applier.records + 1 = ap length one.records ∙ length-append was.applier.records _ in
    omega (arith, some, longer, t.queued)

pub takes_true : {D : Type 0} (view : SoloView D) (was now : Player D) (found : Bool) → found ≡ true → Takes view was now found → Takes view was now true
takes_true {D} view was now found e t = subst (λ (b : Bool). Takes view was now b) e t

pub takes_false : {D : Type 0} (view : SoloView D) (was now : Player D) (found : Bool) → found ≡ false → Takes view was now found → Takes view was now false
takes_false {D} view was now found e t = subst (λ (b : Bool). Takes view was now b) e t

-- memory ran out for a take
drains_part : {D : Type 0} (view : SoloView D) (was now : Player D) (kept : ApplierView) → kept ≡ now.applier → length now.applier.records ≤ now.applier.limit → length now.applier.records ≢ now.applier.limit → DrainsOn view was now
    → (s : Setting) (output : SinkState) (g : ReplayState) → Shows view s was output g → DrainsTo BeginsDrain (Stays view s kept output) s.setup.limit g
drains_part {D} view was now kept is few room on s output g h =
    let r : Reaches view s now output g = on s output g h in
    let more = r.begins [] tt in
    record {
      takes = more.0;
      whole = more.1;
      ends = subst (λ (x : ReplayState). Stays view s kept output x) (sym more.2) (record {
        stood = record { queue = now.queue; after = r.shows.holds.after; limits_are = r.shows.holds.limits };
        shown = records_on s.setup now.applier kept r.g (drains [] r.g) (subst (λ (v : ApplierView). v ≡ record now.applier { moment = v.moment; room = v.room }) (sym is) refl) refl r.shows.applier;
        printed = r.shows.printed;
        room = λ _. below_limit view s now output r.g r.shows few room;
      });
    }

-- a take that found no room met a full log, or memory ran out
pub take_stopped : {D E : Type 0} (view : SoloView D) (ended : SoloView E) (player : Player D) (stop : Stopped) → IsEnded view ended player.queue → StopsPreparing player.applier stop
    → StopsTaking view ended player stop
take_stopped view ended player (stopped.Full kept) is_ended h = record { applier = h.0; full = h.1; is_ended = is_ended }
take_stopped view ended player (stopped.OutOfMemory kept) is_ended h = h
take_stopped view ended player (stopped.Unwritten fault) is_ended h = absurd h

-- a drain that stops met a full log, or memory ran out
pub drain_stopped : {D E : Type 0} (view : SoloView D) (ended : SoloView E) (was now : Player D) (stop : Stopped) → length now.applier.records < now.queued → length now.applier.records ≤ now.applier.limit → DrainsOn view was now → StopsTaking view ended now stop
    → StopsDraining view ended was stop
drain_stopped view ended was now (stopped.Full kept) some few on h = drains_full view ended was now kept some h on
drain_stopped view ended was now (stopped.OutOfMemory kept) some few on h = drains_part view was now kept h.0 few h.1 on
drain_stopped view ended was now (stopped.Unwritten fault) some few on h = absurd h
