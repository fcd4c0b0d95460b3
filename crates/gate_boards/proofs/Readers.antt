-- One reader after the other.
use Rattle.std.proofs.Common.{◌≡◌, ℕ, Bool, true, false, List, [], ◌∷◌, ◌++◌, map, Option, Some, None, refl, sym, ap, ◌∙◌, subst, append_assoc}
use Rattle.std.specs.List.{AllByRecursion}
use Rattle.std.proofs.lemmas.List.{map-append}
use Rattle.gate_environment.specs.Streams.{ComesNext, AreSent, SendFirst}
use Rattle.gate_environment.specs.Parting.{parting, parting_all}
use Rattle.gate_environment.specs.declared.connections.PieceEnd.{PieceEnd}
use Rattle.gate_environment.specs.declared.connections.PieceEnd.TheVariants.{Over}
use Rattle.gate_environment.proofs.PartingLaws.{parting_none, parting_next}
use Rattle.gate_streams.specs.Sink.{SinkState}
use Rattle.gate_boards.specs.Showing.{ShowsBoard, ServedReader, EachShown, NoneIsLast, IsShowing}
use Rattle.gate_boards.specs.inner.Serving.{ServesOnce}
use Rattle.gate_boards.specs.declared.pages.PagesEnd.TheVariants.{Closed, NoMoreReaders}

-- the connection of a reader is over after its piece
abbrev end_of : ServedReader → PieceEnd
end_of reader = Over

-- readers were served, of whom none was shown a closing board, and the connection of each was over after its piece
pub record HasShown (streams left : Option (List (List ℕ))) (given now : Option (List PieceEnd)) : Type 0 where
  pub readers : List ServedReader
  pub sent : SendFirst streams (map (λ (r : ServedReader). r.sent) readers) left
  pub each : EachShown readers
  pub none_is_last : NoneIsLast readers
  pub parted : now ≡ parting_all (map end_of readers) given

sent_none : (streams : Option (List (List ℕ))) → SendFirst streams [] streams
sent_none None = tt
sent_none (Some streams) = (streams, refl, refl)

pub shown_none : (streams : Option (List (List ℕ))) (given : Option (List PieceEnd)) → HasShown streams streams given given
shown_none streams given = record { readers = []; sent = sent_none streams; each = tt; none_is_last = tt; parted = parting_none given }

all_next : {X : Type 0} (P : X → Type 0) (xs : List X) (x : X) → AllByRecursion P xs → P x → AllByRecursion P (xs ++ x ∷ [])
all_next P [] x all here = (here, tt)
all_next P (first ∷ xs) x all here = (all.0, all_next P xs x all.1 here)

sent_next : (streams left later : Option (List (List ℕ))) (readers : List ServedReader) (reader : ServedReader)
    → SendFirst streams (map (λ (r : ServedReader). r.sent) readers) left → ComesNext left (Some reader.sent) later
    → SendFirst streams (map (λ (r : ServedReader). r.sent) (readers ++ reader ∷ [])) later
sent_next None left later readers reader h next = tt
sent_next (Some streams) left later readers reader h next =
    let sent : ServedReader → Option (List ℕ) = λ r. r.sent in
    let n = subst (λ (o : Option (List (List ℕ))). ComesNext o (Some reader.sent) later) h.2 next in (
      n.1,
      h.1 ∙ ap (λ l. map sent readers ++ map Some l) n.2
          ∙ ap (λ o. map sent readers ++ o ∷ map Some n.1) (sym n.3)
          ∙ sym (append_assoc (map sent readers) (reader.sent ∷ []) (map Some n.1))
          ∙ ap (λ l. l ++ map Some n.1) (sym (map-append sent readers (reader ∷ []))),
      n.4,
    )

abbrev reader_of : Option (List ℕ) → SinkState → SinkState → Bool → ServedReader
reader_of sent before after is_last = record { sent = sent; before = before; after = after; is_last = is_last }

-- one more reader, who was shown no closing board
pub shown_next : (streams left middle later : Option (List (List ℕ))) (given now taken after : Option (List PieceEnd)) (sent : Option (List ℕ)) (before shown : SinkState) (is_last : Bool)
    → HasShown streams left given now → ComesNext left (Some sent) middle → taken ≡ now → later ≡ middle → after ≡ parting Over taken
    → ShowsBoard before shown is_last → is_last ≡ false
    → HasShown streams later given after
shown_next streams left middle later given now taken after sent before shown is_last h next comes stays parts shows not_last = record {
  readers = h.readers ++ reader_of sent before shown is_last ∷ [];
  sent = sent_next streams left later h.readers (reader_of sent before shown is_last) h.sent
      (subst (λ (o : Option (List (List ℕ))). ComesNext left (Some sent) o) (sym stays) next);
  each = all_next (λ (r : ServedReader). ShowsBoard r.before r.after r.is_last) h.readers (reader_of sent before shown is_last) h.each shows;
  none_is_last = all_next (λ (r : ServedReader). r.is_last ≡ false) h.readers (reader_of sent before shown is_last) h.none_is_last not_last;
  parted = parting_next end_of h.readers (reader_of sent before shown is_last) given now after h.parted (parts ∙ ap (parting Over) comes);
}

-- or who was shown one
pub shown_last : (streams left later : Option (List (List ℕ))) (given now taken after : Option (List PieceEnd)) (sent : Option (List ℕ)) (before shown : SinkState) (is_last : Bool)
    → HasShown streams left given now → ComesNext left (Some sent) later → taken ≡ now → after ≡ parting Over taken
    → ShowsBoard before shown is_last → is_last ≡ true
    → ServesOnce streams Closed given after
shown_last streams left later given now taken after sent before shown is_last h next comes parts shows last = record {
  shows = record {
    readers = h.readers ++ reader_of sent before shown is_last ∷ [];
    left = later;
    sent = sent_next streams left later h.readers (reader_of sent before shown is_last) h.sent next;
    each = all_next (λ (r : ServedReader). ShowsBoard r.before r.after r.is_last) h.readers (reader_of sent before shown is_last) h.each shows;
    ends = (h.readers, reader_of sent before shown is_last, refl, h.none_is_last, last);
  };
  parted = parting_next end_of h.readers (reader_of sent before shown is_last) given now after h.parted (parts ∙ ap (parting Over) comes);
}

none_left : (streams left : Option (List (List ℕ))) → ComesNext streams None left → AreSent streams
none_left None left h = tt
none_left (Some streams) left h = h

-- or no more came
pub shown_all : (streams left later : Option (List (List ℕ))) (given now after : Option (List PieceEnd)) → HasShown streams left given now
    → ComesNext left None later → after ≡ now
    → ServesOnce streams NoMoreReaders given after
shown_all streams left later given now after h next comes = record {
  shows = record {
    readers = h.readers;
    left = left;
    sent = h.sent;
    each = h.each;
    ends = (h.none_is_last, none_left left later next);
  };
  parted = comes ∙ h.parted;
}
