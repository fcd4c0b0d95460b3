-- What a page's query asks for (`asked_nodes`), or the form by which another is asked (`form_nodes`): `filter_nodes`. Own rules.
use Rattle.std.specs.Prelude.{Bool, true, false, not, if◌then◌else◌, List, [], ◌∷◌, ◌++◌, ℕ, Option, Some, None, is_some, codes}
use Rattle.std.specs.List.{flat_map}
use Rattle.gate_model.specs.declared.state.State.TheVariants.{Pending, Ok, Warning, Critical, Unknown, Up, Down, Unreachable}
use Rattle.status_merge.specs.declared.query.Choice.{Choice}
use Rattle.status_merge.specs.declared.query.Choice.TheVariants.{All, Problems, Unhandled, Stale, In}
use Rattle.status_merge.specs.Asking.{choice_word, mark_word, sort_word}
use Rattle.status_view.specs.declared.layout.AskedText.{AskedText}
use Rattle.status_view.specs.declared.layout.AskedText.TheVariants as asked
use Rattle.status_view.specs.declared.layout.Slot.TheVariants as slot
use Rattle.status_view.specs.Layout.{NodeView, Markup, Number, Text, nodes_if}
use Rattle.status_view.specs.Shapes.{PageShapeView}
use Rattle.status_view.specs.SummaryLayout.{same_choice}

-- ---- the form

-- whether the same is asked of a mark
unfoldable pub same_mark : Option Bool → Option Bool → Bool
same_mark None None = true
same_mark (Some true) (Some true) = true
same_mark (Some false) (Some false) = true
same_mark one other = false

-- an entry of the form's list of choices; the query's own choice is selected
unfoldable pub option_nodes : Choice → Choice → List NodeView
option_nodes chosen choice =
    (Markup (codes "<option") ∷ [])
    ++ nodes_if (same_choice chosen choice) (Markup (codes " selected") ∷ [])
    ++ (Markup (codes ">") ∷ Markup (choice_word choice) ∷ Markup (codes "</option>") ∷ [])

-- the choices of the form, in its order
unfoldable pub form_choices : List Choice
form_choices =
    All ∷ Problems ∷ Unhandled ∷ Stale
    ∷ In Critical ∷ In Warning ∷ In Unknown ∷ In Ok
    ∷ In Down ∷ In Unreachable ∷ In Up ∷ In Pending ∷ []

-- the entry of a list of what is asked of a mark; what the query asks is selected
unfoldable pub mark_option_nodes : Option Bool → Option Bool → List NodeView
mark_option_nodes chosen mark =
    (Markup (codes "<option") ∷ [])
    ++ nodes_if (same_mark chosen mark) (Markup (codes " selected") ∷ [])
    ++ (Markup (codes ">") ∷ Markup (mark_word mark) ∷ Markup (codes "</option>") ∷ [])

-- the list, whose beginning is this
unfoldable pub mark_nodes : List ℕ → Option Bool → List NodeView
mark_nodes begin chosen =
    (Markup begin ∷ [])
    ++ mark_option_nodes chosen None
    ++ mark_option_nodes chosen (Some true)
    ++ mark_option_nodes chosen (Some false)
    ++ (Markup (codes "</select></label>") ∷ [])

-- a text, whose field's beginning is this
unfoldable pub text_nodes : List ℕ → AskedText → List NodeView
text_nodes begin what = Markup begin ∷ Text (slot.Asked what) ∷ Markup (codes "\"></label>") ∷ []

-- the fields of the texts
unfoldable pub texts_nodes : List NodeView
texts_nodes =
    text_nodes (codes " <label>Host <input name=\"host\" value=\"") asked.Host
    ++ text_nodes (codes " <label>Host, exactly <input name=\"hostname\" value=\"") asked.Hostname
    ++ text_nodes (codes " <label>Service <input name=\"service\" value=\"") asked.Service
    ++ text_nodes (codes " <label>Output <input name=\"output\" value=\"") asked.Output
    ++ text_nodes (codes " <label>Gateway <input name=\"gateway\" value=\"") asked.Gateway

-- the form, which keeps the order of the list
unfoldable pub form_nodes : PageShapeView → List NodeView
form_nodes shape =
    (Markup (codes "<form method=\"get\" action=\"/\" role=\"search\" aria-label=\"Objects\">")
    ∷ Markup (codes "<input type=\"hidden\" name=\"sort\" value=\"")
    ∷ Markup (sort_word shape.sort)
    ∷ Markup (codes "\"><label>State <select name=\"state\">")
    ∷ [])
    ++ flat_map (option_nodes shape.choice) form_choices
    ++ (Markup (codes "</select></label>") ∷ [])
    ++ texts_nodes
    ++ mark_nodes (codes " <label>Acknowledged <select name=\"acknowledged\">") shape.acknowledged
    ++ mark_nodes (codes " <label>In downtime <select name=\"downtime\">") shape.downtime
    ++ (Markup (codes " <label>Refresh <input name=\"refresh\" type=\"number\" min=\"0\" max=\"3600\" value=\"")
    ∷ Number shape.refresh
    ∷ Markup (codes "\"></label> <button>Show</button></form>\n")
    ∷ [])

-- ---- what is asked for

-- the choice, where it doesn't take all objects
unfoldable pub choice_nodes : Choice → List NodeView
choice_nodes choice =
    nodes_if (not (same_choice choice All))
    (Markup (codes " <span class=\"badge\">state ") ∷ Markup (choice_word choice) ∷ Markup (codes "</span>") ∷ [])

-- a text, where one is asked for, with this beginning
unfoldable pub asked_text_nodes : List ℕ → Bool → AskedText → List NodeView
asked_text_nodes begin is what =
    nodes_if is (Markup begin ∷ Text (slot.Asked what) ∷ Markup (codes "</bdi></span>") ∷ [])

unfoldable pub asked_texts_nodes : PageShapeView → List NodeView
asked_texts_nodes shape =
    asked_text_nodes (codes " <span class=\"badge\">host has <bdi>") shape.texts.host asked.Host
    ++ asked_text_nodes (codes " <span class=\"badge\">host is <bdi>") shape.texts.hostname asked.Hostname
    ++ asked_text_nodes (codes " <span class=\"badge\">service has <bdi>") shape.texts.service asked.Service
    ++ asked_text_nodes (codes " <span class=\"badge\">output has <bdi>") shape.texts.output asked.Output
    ++ asked_text_nodes (codes " <span class=\"badge\">gateway is <bdi>") shape.texts.gateway asked.Gateway

-- what is asked of a mark, where something is, with this beginning
unfoldable pub asked_mark_nodes : List ℕ → Option Bool → List NodeView
asked_mark_nodes begin mark =
    nodes_if (is_some mark) (Markup begin ∷ Markup (mark_word mark) ∷ Markup (codes "</span>") ∷ [])

-- all of that, after the link to the same page with the form
unfoldable pub asked_nodes : PageShapeView → List NodeView
asked_nodes shape =
    (Markup (codes "<p class=\"asked\"><a href=\"/?")
    ∷ Text (slot.Query shape.page)
    ∷ Markup (codes "&amp;filters=open\">Filter</a>")
    ∷ [])
    ++ choice_nodes shape.choice
    ++ asked_texts_nodes shape
    ++ asked_mark_nodes (codes " <span class=\"badge\">acknowledged ") shape.acknowledged
    ++ asked_mark_nodes (codes " <span class=\"badge\">in downtime ") shape.downtime
    ++ (Markup (codes "</p>\n") ∷ [])

-- the form where the page has it
abbrev pub filter_nodes : PageShapeView → List NodeView
filter_nodes shape = if shape.form then form_nodes shape else asked_nodes shape
