-- Bytes that are handed out in order, and sent from the front.
use Rattle.std.proofs.Common.{◌≡◌, ℕ, ◌+◌, ◌≤◌, List, [], ◌++◌, length, take, drop, refl, sym, ap, subst, ◌∙◌, append_assoc, arith, Result, Ok, Err, OnOk, is_ok, true}
use Rattle.std.proofs.lemmas.List.{take-append-drop, length-take-le, take-append-le, drop-drop, append-nil}
use Rattle.std.specs.Prelude.{IsNone, IfSome, Option, Some, None}
use Rattle.std.specs.Option.{option_map}
use Rattle.gate_turns.specs.declared.standing.Role.TheVariants.{Agent, Operator}
use Rattle.gate_ports.specs.declared.held.Held.{Held}
use Rattle.gate_ports.specs.declared.peer.Peer.{Peer}
use Rattle.gate_ports.specs.declared.served.Served.{Served}
use Rattle.gate_ports.specs.Held.{line_ends}
use Rattle.gate_ports.specs.Peers.{CountsLines, HandsOn, HandsOut, IsSameBy, IsRead, Sends}

-- ---- what is left to be sent

pub sends_none : (bytes : List ℕ) → Sends bytes bytes
sends_none bytes = (0, refl)

pub sends_more : (old rest new : List ℕ) (count : ℕ) → Sends old rest → new ≡ drop count rest → Sends old new
sends_more old rest new count (before, e) same = (before + count, same ∙ ap (drop count) e ∙ drop-drop count before old)

pub sends_after : (unsent bytes rest : List ℕ) → unsent ≡ [] → Sends bytes rest → Sends (unsent ++ bytes) (unsent ++ rest)
sends_after unsent bytes rest none (count, e) =
    (count, ap (λ xs. xs ++ rest) none ∙ e ∙ ap (drop count) (ap (λ xs. xs ++ bytes) (sym none)))

-- what holds where a result is Ok
pub where_ok : {A B : Type 0} (result : Result A B) (fact : Type 0) → OnOk result fact → is_ok result ≡ true → fact
where_ok (Ok value) fact holds ok = holds
where_ok (Err error) fact holds ok = absurd cc

-- ---- what is handed out

-- the first bytes of a front are those of the whole
pub take_front : (count n : ℕ) (bytes : List ℕ) → count ≤ n → n ≤ length bytes → take count bytes ≡ take count (take n bytes)
take_front count n bytes less within =
    let long : length (take n bytes) ≡ n = length-take-le n bytes within in
    ap (take count) (sym (take-append-drop n bytes)) ∙ take-append-le count (take n bytes) (drop n bytes) (omega (arith, long, less))

-- bytes that are split where whole packets end
pub split_in_order : (held bytes kept : List ℕ) (begun n whole : ℕ) → take begun bytes ≡ held → begun ≤ n → whole ≤ n → n ≤ length bytes
    → kept ≡ drop whole (take n bytes) → take whole bytes ++ kept ≡ held ++ drop begun (take n bytes)
split_in_order held bytes kept begun n whole front less_begun less_whole within same =
    ap (λ xs. xs ++ kept) (take_front whole n bytes less_whole within)
    ∙ ap (λ xs. take whole (take n bytes) ++ xs) same
    ∙ take-append-drop whole (take n bytes)
    ∙ sym (take-append-drop begun (take n bytes))
    ∙ ap (λ xs. xs ++ drop begun (take n bytes)) (sym (take_front begun n bytes less_begun within) ∙ front)

pub read_none : (peer : Peer) → IsRead peer peer
read_none peer = record {
  same = record { role = refl; is_new = refl; unsent = refl; failure = λ none. none };
  kept = λ agent none. ([], sym (append-nil peer.held.bytes.items));
  lines = λ operator. omega arith;
}

pub same_more : (old mid new : Peer) → IsSameBy old mid → IsSameBy mid new → IsSameBy old new
same_more old mid new first second = record {
  role = second.role ∙ first.role;
  is_new = second.is_new ∙ first.is_new;
  unsent = second.unsent ∙ first.unsent;
  failure = λ none. first.failure (second.failure none);
}

pub hands_more : (old mid new : Peer) (count : ℕ) (buffer : List ℕ) → IsRead old mid → IsSameBy mid new → HandsOn mid count buffer new → HandsOn old count buffer new
hands_more old mid new count buffer read same hands agent none =
    let (first, one) = read.kept agent (same.failure none) in
    let (second, two) = hands (read.same.role ∙ agent) none in
    (first ++ second, two ∙ ap (λ xs. xs ++ second) one ∙ append_assoc old.held.bytes.items first second)

-- lines of the piece that were handed out after a read are counted as if it had been one with it
pub counts_more : (old mid new : Peer) (count : ℕ) (buffer : List ℕ) → IsRead old mid → CountsLines mid count buffer new → CountsLines old count buffer new
counts_more old mid new count buffer read counts operator =
    let first = read.lines operator in
    let second = counts (read.same.role ∙ operator) in
    omega (arith, first, second)

pub read_more : (old mid new : Peer) → IsRead old mid → IsSameBy mid new → HandsOn mid 0 [] new → CountsLines mid 0 [] new → IsRead old new
read_more old mid new read same hands counts = record {
  same = same_more old mid new read.same same;
  kept = hands_more old mid new 0 [] read same hands;
  lines = counts_more old mid new 0 [] read counts;
}

-- ---- of the peer that is served

-- nothing was handed out
hands_none : (old new : Peer) (buffer : List ℕ) → new.held ≡ old.held → HandsOut old 0 buffer new
hands_none old new buffer same = record {
  room = omega arith;
  in_order = λ agent none. ([], ap (λ (held : Held). held.bytes.items) same ∙ sym (append-nil old.held.bytes.items));
  lines = λ operator. let lines = ap (λ (held : Held). held.lines) same in omega (arith, lines);
}

-- it matters only what is held before
hands_same : (old mid new : Peer) (count : ℕ) (buffer : List ℕ) → mid.held ≡ old.held → HandsOut mid count buffer new → HandsOut old count buffer new
hands_same old mid new count buffer same hands = record {
  room = hands.room;
  in_order = subst (λ (held : Held). held.role ≡ Agent → IsNone new.failure
      → (came : List ℕ) × (take count buffer ++ new.held.bytes.items ≡ held.bytes.items ++ came)) same hands.in_order;
  lines = subst (λ (held : Held). held.role ≡ Operator → new.held.lines ≡ held.lines + line_ends (take count buffer)) same hands.lines;
}

abbrev held_of : Served → ℕ × Held
held_of served = (served.place, served.peer.held)

abbrev held_in : Option (ℕ × Held) → Held → Held
held_in None other = other
held_in (Some pair) other = pair.1

pub served_none : (old new : Option Served) (buffer : List ℕ) → option_map held_of new ≡ option_map held_of old
    → IfSome old (λ before. IfSome new (λ after. HandsOut before.peer 0 buffer after.peer))
served_none None new buffer same = tt
served_none (Some before) None buffer same = tt
served_none (Some before) (Some after) buffer same = hands_none before.peer after.peer buffer (ap (λ o. held_in o before.peer.held) same)

pub served_some : (old mid new : Option Served) (between after : Served) (count : ℕ) (buffer : List ℕ) → option_map held_of mid ≡ option_map held_of old
    → mid ≡ Some between → new ≡ Some after → HandsOut between.peer count buffer after.peer
    → IfSome old (λ before. IfSome new (λ last. HandsOut before.peer count buffer last.peer))
served_some None mid new between after count buffer same is last hands = tt
served_some (Some before) mid new between after count buffer same is last hands =
    subst (λ (o : Option Served). IfSome o (λ last. HandsOut before.peer count buffer last.peer)) (sym last)
    (hands_same before.peer between.peer after.peer count buffer (ap (λ o. held_in o before.peer.held) (sym (ap (option_map held_of) is) ∙ same)) hands)
