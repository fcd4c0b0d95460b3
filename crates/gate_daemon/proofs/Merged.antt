-- Once all clients were joined, the log holds for each of them what it was answered is queued.
use Rattle.std.proofs.Common.{◌≡◌, ℕ, zero, suc, ◌+◌, ◌≤◌, ◌<◌, Bool, eq-eqb, if◌then◌else◌, List, [], ◌∷◌, map, Some, refl, sym, ap, ◌∙◌, subst, arith}
use Rattle.std.specs.Prelude.{All, length, unwrap_or}
use Rattle.std.proofs.lemmas.Bool.{ne_eqb}
use Rattle.gate_model.specs.declared.submission.Numbered.{Numbered}
use Rattle.gate_core.specs.Merge.{IsClient, of_client, IsMerge}
use Rattle.gate_queue.specs.declared.rule.EndedList.{EndedList}
use Rattle.gate_queue.specs.Client.{ClientState}
use Rattle.gate_queue.specs.Taker.{ended_list, queued_of}
use Rattle.gate_close.specs.DrainedClose.{lists_with, queued_by}
use Rattle.gate_worker.specs.Numbers.{item_numbers, numbers_after}
use Rattle.gate_worker.specs.Answered.{HoldsAll}
use Rattle.gate_worker.specs.Collecting.{numbers_of, queued_for_each}

-- ---- distinct numbers

abbrev IsNotIn : ℕ → List ℕ → Type 0
IsNotIn c [] = Unit {0}
IsNotIn c (x ∷ xs) = (¬ (x ≡ c)) × IsNotIn c xs

abbrev AreDistinct : List ℕ → Type 0
AreDistinct [] = Unit {0}
AreDistinct (x ∷ xs) = IsNotIn x xs × AreDistinct xs

none_after : (c start n : ℕ) → c ≤ start → IsNotIn c (numbers_after start n)
none_after c start zero low = tt
none_after c start (suc n) low = (λ e. absurd (omega arith), none_after c (suc start) n (omega arith))

none_before : (c start n : ℕ) → start + n < c → IsNotIn c (numbers_after start n)
none_before c start zero high = tt
none_before c start (suc n) high = (λ e. absurd (omega arith), none_before c (suc start) n (omega arith))

distinct_after : (start n : ℕ) → AreDistinct (numbers_after start n)
distinct_after start zero = tt
distinct_after start (suc n) = (none_after (suc start) (suc start) n (omega arith), distinct_after (suc start) n)

distinct_all : (workers : ℕ) → AreDistinct (suc workers ∷ numbers_after 0 workers)
distinct_all workers = (none_before (suc workers) 0 workers (omega arith), distinct_after 0 workers)

abbrev AreClients : ℕ → List ℕ → Type 0
AreClients n [] = Unit {0}
AreClients n (x ∷ xs) = IsClient n x × AreClients n xs

clients_after : (n start k : ℕ) → start + k ≤ n → AreClients n (numbers_after start k)
clients_after n start zero low = tt
clients_after n start (suc k) low = ((omega arith, omega arith), clients_after n (suc start) k (omega arith))

clients_all : (workers : ℕ) → AreClients (suc workers) (suc workers ∷ numbers_after 0 workers)
clients_all workers = ((omega arith, omega arith), clients_after (suc workers) 0 workers (omega arith))

-- ---- what was queued for a client among many

other_client : (c : ℕ) (e : ClientState) (old : List EndedList) → (¬ (e.number ≡ c)) → queued_of c (ended_list e.number e.queued ∷ old) ≡ queued_of c old
other_client c e old n = ap (λ (b : Bool). if b then Some e.queued else queued_of c old) (ne_eqb e.number c n)

other_clients : (c : ℕ) (es : List ClientState) (old : List EndedList) → IsNotIn c (numbers_of es) → queued_of c (lists_with es old) ≡ queued_of c old
other_clients c [] old n = refl
other_clients c (e ∷ es) old n = other_clients c es (ended_list e.number e.queued ∷ old) n.1 ∙ other_client c e old n.0

same_client : (e : ClientState) (old : List EndedList) → queued_of e.number (ended_list e.number e.queued ∷ old) ≡ Some e.queued
same_client e old = ap (λ (b : Bool). if b then Some e.queued else queued_of e.number old) (eq-eqb e.number e.number refl)

-- the items of each of these clients are what was queued for it
abbrev pub AreHeld : List Numbered → List ClientState → Type 0
AreHeld items [] = Unit {0}
AreHeld items (e ∷ es) = (of_client e.number items ≡ e.queued) × AreHeld items es

each_merged : (n : ℕ) (items : List Numbered) (es : List ClientState) (old : List EndedList) → ((c : ℕ) → IsClient n c → of_client c items ≡ queued_by es old c) → AreDistinct (numbers_of es) → AreClients n (numbers_of es)
    → AreHeld items es
each_merged n items [] old h d w = tt
each_merged n items (e ∷ es) old h d w =
    let more = ended_list e.number e.queued ∷ old in
    let found : queued_of e.number (lists_with es more) ≡ Some e.queued = other_clients e.number es more d.0 ∙ same_client e old in
    (h e.number w.0 ∙ ap (λ o. unwrap_or o []) found, each_merged n items es more h d.1 w.1)

-- all clients were joined, and the items are a merge of what was queued for them
pub all_merged : (workers : ℕ) (items : List Numbered) (es : List ClientState) → numbers_of es ≡ suc workers ∷ numbers_after 0 workers → IsMerge (suc workers) (queued_by es []) items → AreHeld items es
all_merged workers items es all m = each_merged (suc workers) items es [] m.each (subst AreDistinct (sym all) (distinct_all workers)) (subst (AreClients (suc workers)) (sym all) (clients_all workers))

held_numbers : (items : List Numbered) (es : List ClientState) → AreHeld items es → map (λ e. item_numbers (of_client e.number items)) es ≡ map (λ e. item_numbers e.queued) es
held_numbers items [] held = refl
held_numbers items (e ∷ es) held =
    ap (λ l. l ∷ map (λ x. item_numbers (of_client x.number items)) es) (ap item_numbers held.0) ∙ ap (λ l. item_numbers e.queued ∷ l) (held_numbers items es held.1)

-- ---- what they were answered

pub map_twice : {A B C : Type 0} (f : B → C) (g : A → B) (xs : List A) → map f (map g xs) ≡ map (λ x. f (g x)) xs
map_twice f g [] = refl
map_twice f g (x ∷ xs) = ap (λ l. f (g x) ∷ l) (map_twice f g xs)

holds_for : (workers : ℕ) (es : List ClientState) (log : List Numbered) → numbers_of es ≡ suc workers ∷ numbers_after 0 workers
    → All (λ (pair : ℕ × List ℕ). pair.1 ≡ numbers_after 0 (length pair.1)) (queued_for_each es)
    → IsMerge (suc workers) (queued_by es []) log → HoldsAll workers (queued_for_each es) log
holds_for workers es log all counted merge =
    let one : ClientState → ℕ × List ℕ = λ e. (e.number, item_numbers e.queued) in
    let e : suc workers ≡ workers + 1 = omega arith in
    record {
      clients = map_twice (λ (pair : ℕ × List ℕ). pair.0) one es ∙ all ∙ ap (λ k. k ∷ numbers_after 0 workers) e;
      counted = counted;
      answered = map_twice (λ (pair : ℕ × List ℕ). item_numbers (of_client pair.0 log)) one es ∙ held_numbers log es (all_merged workers log es all merge)
          ∙ sym (map_twice (λ (pair : ℕ × List ℕ). pair.1) one es);
      items = subst (λ (n : ℕ). All (λ (item : Numbered). IsClient n item.client) log) e merge.clients;
    }

-- all clients were joined, these are the numbers that were queued for them, and the log is a merge of their items
pub holds_all : (workers n : ℕ) (es : List ClientState) (queued : List (ℕ × List ℕ)) (log : List Numbered) → n ≡ workers + 1
    → numbers_of es ≡ (workers + 1) ∷ numbers_after 0 workers → queued_for_each es ≡ queued
    → All (λ (pair : ℕ × List ℕ). pair.1 ≡ numbers_after 0 (length pair.1)) (queued_for_each es)
    → IsMerge n (queued_by es []) log → HoldsAll workers queued log
holds_all workers n es queued log same all reported counted merge =
    let e : workers + 1 ≡ suc workers = omega arith in
    subst (λ (q : List (ℕ × List ℕ)). HoldsAll workers q log) reported
    (holds_for workers es log (all ∙ ap (λ k. k ∷ numbers_after 0 workers) e) counted (subst (λ (k : ℕ). IsMerge k (queued_by es []) log) (same ∙ e) merge))
