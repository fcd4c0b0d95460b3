-- The line of a change between two status pages: `line`. Names and texts stand as the page has them. Own rules: the texts.
use Rattle.std.specs.Prelude.{ℕ, Bool, true, false, List, [], ◌∷◌, ◌++◌, codes}
use Rattle.std.specs.Fmt.{decimal}
use Rattle.gate_model.specs.declared.state.State.{State}
use Rattle.gate_lines.specs.Lines.{state_name}
use Rattle.status_reading.specs.declared.rows.ShownAcknowledgement.{ShownAcknowledgement}
use Rattle.status_reading.specs.declared.rows.ShownAcknowledgement.TheVariants.{Missing, Normal, Sticky}
use Rattle.page_changes.specs.declared.comparing.Change.{Change}
use Rattle.page_changes.specs.declared.comparing.Change.TheVariants as change

-- `HOST: `, or `HOST SERVICE: `, of the fields of a page
abbrev pub of_object : List ℕ → List ℕ → List ℕ
of_object host [] = host ++ codes ": "
of_object host (first ∷ rest) = host ++ codes " " ++ (first ∷ rest) ++ codes ": "

-- another state, with the output of its result
abbrev pub state_text : State → State → List ℕ → List ℕ
state_text before after output =
    state_name after ++ codes ", was " ++ state_name before ++ codes ": " ++ output

abbrev pub freshness_text : Bool → List ℕ
freshness_text true = codes "stale"
freshness_text false = codes "fresh"

abbrev pub acknowledgement_text : ShownAcknowledgement → List ℕ
acknowledgement_text Missing = codes "no longer acknowledged"
acknowledgement_text Normal = codes "acknowledged"
acknowledgement_text Sticky = codes "acknowledged, sticky"

-- how many downtime entries are active
abbrev pub depth_text : ℕ → ℕ → List ℕ
depth_text before after = codes "downtime depth " ++ decimal after ++ codes ", was " ++ decimal before

-- ` by AUTHOR: TEXT`
abbrev pub saying : List ℕ → List ℕ → List ℕ
saying author text = codes " by " ++ author ++ codes ": " ++ text

-- the times of a downtime entry, in seconds since 1970
abbrev pub window_text : ℕ → ℕ → List ℕ
window_text start end = codes " from " ++ decimal start ++ codes " to " ++ decimal end

-- what is other
abbrev pub change_text : Change → List ℕ
change_text change.OtherObjects = codes "the gateway has other objects"
change_text (change.State one other) =
    of_object other.host.now other.service.now ++ state_text one.state other.state other.output.now
change_text (change.Staleness one other) = of_object other.host.now other.service.now ++ freshness_text other.stale
change_text (change.Acknowledgement one other) =
    of_object other.host.now other.service.now ++ acknowledgement_text other.acknowledgement
change_text (change.Depth one other) = of_object other.host.now other.service.now ++ depth_text one.depth other.depth
change_text (change.CommentMade row) =
    of_object row.host.now row.service.now ++ (codes "comment " ++ decimal row.id) ++ saying row.author.now row.text.now
change_text (change.CommentGone row) =
    of_object row.host.now row.service.now ++ (codes "comment " ++ decimal row.id) ++ codes " is gone"
change_text (change.DowntimeMade row) =
    of_object row.host.now row.service.now ++ (codes "downtime " ++ decimal row.id)
    ++ window_text row.start row.end ++ saying row.author.now row.text.now
change_text (change.DowntimeGone row) =
    of_object row.host.now row.service.now ++ (codes "downtime " ++ decimal row.id) ++ codes " is gone"
change_text (change.Closing moment) = codes "the gateway is closing"

-- `[MOMENT] TEXT`, of the moment of the page after
abbrev pub line : ℕ → Change → List ℕ
line moment change = (codes "[" ++ decimal moment) ++ codes "] " ++ change_text change ++ codes "\n"
