-- The forms of an object's page (HTML, 4.10). Each has hidden fields for the user's token, the page's number, the object as
-- the status page spells it, and the action of its button. Own rules: the fields, as desk_forms reads them.
use Rattle.std.specs.Prelude.{ℕ, List, [], ◌∷◌, ◌++◌, codes}
use Rattle.desk_view.specs.declared.forms.FormOf.{FormOf}
use Rattle.desk_view.specs.Parts.{PartView}
use Rattle.status_view.specs.Layout.{Markup, Text, Number}

-- a form of this action, up to its own fields
unfoldable pub open_form : FormOf → List ℕ → List PartView
open_form of action =
    Markup (codes "<form method=\"post\" action=\"/command\"><input type=\"hidden\" name=\"token\" value=\"")
    ∷ Text of.token.now
    ∷ Markup (codes "\"><input type=\"hidden\" name=\"page\" value=\"")
    ∷ Number of.page
    ∷ Markup (codes "\"><input type=\"hidden\" name=\"host\" value=\"")
    ∷ Text of.host.now
    ∷ Markup (codes "\"><input type=\"hidden\" name=\"service\" value=\"")
    ∷ Text of.service.now
    ∷ Markup (codes "\"><input type=\"hidden\" name=\"action\" value=\"")
    ∷ Markup action
    ∷ Markup (codes "\">")
    ∷ []

-- a form whose own fields and button are this markup
abbrev pub form : FormOf → List ℕ → List ℕ → List PartView
form of action fields = open_form of action ++ Markup fields ∷ []

-- the fields of an entry of a gateway, and a button
unfoldable pub entry_fields : List ℕ → ℕ → List ℕ → List PartView
entry_fields gateway id button =
    Markup (codes "<input type=\"hidden\" name=\"gateway\" value=\"")
    ∷ Text gateway
    ∷ Markup (codes "\"><input type=\"hidden\" name=\"id\" value=\"")
    ∷ Number id
    ∷ Markup (codes "\"><button>")
    ∷ Markup button
    ∷ Markup (codes "</button></form></li>\n")
    ∷ []

-- a form that deletes an entry of a gateway
abbrev pub entry_form : FormOf → List ℕ → List ℕ → ℕ → List ℕ → List PartView
entry_form of action gateway id button = open_form of action ++ entry_fields gateway id button
