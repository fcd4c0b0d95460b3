-- What the page says of a form where a gateway hasn't taken it: `said_of`, and of the forms for its marks
-- `said_of_marks`. Own rules: the words.
use Rattle.std.specs.Prelude.{ℕ, Bool, true, false, not, ◌==◌, List, [], ◌∷◌, ◌++◌, length, codes, if◌then◌else◌}
use Rattle.std.specs.List.{flat_map, zip}
use Rattle.page_watching.specs.declared.watching.Seen.{Seen}
use Rattle.desk_forms.specs.declared.requests.FormFault.{FormFault}
use Rattle.desk_forms.specs.Faults.{words_of}
use Rattle.desk_forms.specs.Marks.{host_of, service_of}
use Rattle.desk_sending.specs.Orders.{objection_text}
use Rattle.desk_outbox.specs.Outbox.{take_words}
use Rattle.desk_outbox.specs.Showing.{service_part}
use Rattle.statusdesk.specs.declared.commanding.Done.{Done}
use Rattle.statusdesk.specs.declared.commanding.Done.TheVariants.{NotAsked, Objected, Untaken, Taken}
use Rattle.statusdesk.specs.Notes.{SaidView}

-- whether the form is for the gateway, and whether its outbox has taken in the order
abbrev pub is_for : Done → Bool
is_for NotAsked = false
is_for done = true

abbrev pub is_taken : Done → Bool
is_taken (Taken posted) = true
is_taken done = false

-- the words for what became of it there
abbrev pub done_words : Done → List ℕ
done_words NotAsked = []
done_words (Objected why) = codes "not sent: " ++ objection_text why
done_words (Untaken fault) = codes "not sent: " ++ take_words fault
done_words (Taken posted) = codes "being sent"

-- what is said of it after these names
abbrev pub said_at_gateway : List ℕ → Seen → Done → SaidView
said_at_gateway names seen done = record {
  gateway = seen.place.name.now;
  text = names ++ done_words done;
  is_settled = true;
  is_alarm = not (is_taken done);
}

-- that at each gateway that the form is for, in their order
abbrev pub said_if_for : List ℕ → Seen × Done → List SaidView
said_if_for names one = if is_for one.1 then said_at_gateway names one.0 one.1 ∷ [] else []

abbrev pub said_of : List ℕ → List Seen → List Done → List SaidView
said_of names seen all = flat_map (said_if_for names) (zip seen all)

-- ---- marks

-- what is said of no gateway
abbrev pub alarm : List ℕ → SaidView
alarm text = record { gateway = []; text = text; is_settled = true; is_alarm = true }

-- the names of a mark's object
abbrev pub names_of : List ℕ → List ℕ
names_of mark = host_of mark ++ service_part (service_of mark) ++ codes ": "

-- these, or that no gateway shows the object of these names
abbrev pub or_nowhere : List ℕ → List SaidView → List SaidView
or_nowhere names said =
    if length said == 0 then alarm (names ++ codes "not sent: no gateway shows it") ∷ [] else said

-- what is said of each mark at each gateway, in their order
abbrev pub said_of_mark : List Seen → List ℕ × List Done → List SaidView
said_of_mark seen one = or_nowhere (names_of one.0) (said_of (names_of one.0) seen one.1)

abbrev pub said_of_marks : List Seen → List (List ℕ) → List (List Done) → List SaidView
said_of_marks seen marks all = flat_map (said_of_mark seen) (zip marks all)

-- what is said of a form without marks that count
abbrev pub said_of_fault : FormFault → List SaidView
said_of_fault fault = alarm (words_of fault) ∷ []
