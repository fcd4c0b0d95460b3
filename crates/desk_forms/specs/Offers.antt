-- What a form can ask for, whatever its bytes are: requests for what the page shows (`IsOffered`), and so commands for it
-- in the user's name (`IsAllowed`).
use Rattle.std.specs.Prelude.{◌≡◌, ℕ, true, false, List, [], ◌∷◌, Option, Some, None, Contains}
use Rattle.gate_model.specs.declared.submission.Body.{Body}
use Rattle.gate_model.specs.declared.submission.Body.TheVariants as bodies
use Rattle.gate_grammar.specs.Numbers.{number_of}
use Rattle.status_reading.specs.Rows.{ObjectView, PageView}
use Rattle.operator_commands.specs.declared.request.Object.{Object}
use Rattle.operator_commands.specs.declared.request.Request.{Request}
use Rattle.operator_commands.specs.declared.request.Request.TheVariants as request
use Rattle.desk_forms.specs.Requests.{object_of, shows_comment, shows_downtime}

-- the object is one of the page
abbrev pub IsOn : PageView → Object → Type 0
IsOn page object = (row : ObjectView) × Contains page.objects row × (object ≡ object_of row)

-- the word is the id of a comment, or of a downtime entry, of the page
abbrev pub IsComment : PageView → List ℕ → Type 0
IsComment page word = (id : ℕ) × (number_of word ≡ Some id) × (shows_comment id page.comments ≡ true)

abbrev pub IsDowntime : PageView → List ℕ → Type 0
IsDowntime page word = (id : ℕ) × (number_of word ≡ Some id) × (shows_downtime id page.downtimes ≡ true)

-- the request is for what the page shows, and names no author
abbrev pub IsOffered : PageView → Request → Type 0
IsOffered page (request.Ack object remark sticky persistent) = IsOn page object × (remark.author ≡ None)
IsOffered page (request.Unack object) = IsOn page object
IsOffered page (request.Comment object remark persistent) = IsOn page object × (remark.author ≡ None)
IsOffered page (request.Uncomment (word ∷ []) false) = IsComment page word
IsOffered page (request.Downtime object remark window services) = IsOn page object × (remark.author ≡ None)
IsOffered page (request.Cancel (word ∷ [])) = IsDowntime page word
IsOffered page (request.Passive setting object) = IsOn page object
IsOffered page other = ⊥

-- the page shows this host, or this service
abbrev pub Shows : PageView → List ℕ → Option (List ℕ) → Type 0
Shows page host service = IsOn page (record { host = host; service = service })

-- the command is for what the page shows, and by this user where it has an author; no check result and no shutdown is
abbrev pub IsAllowed : PageView → List ℕ → Body → Type 0
IsAllowed page user (bodies.Acknowledge host service sticky notify persistent author text) =
    Shows page host service × (author ≡ user)
IsAllowed page user (bodies.RemoveAck host service) = Shows page host service
IsAllowed page user (bodies.AddComment host service persistent author text) =
    Shows page host service × (author ≡ user)
IsAllowed page user (bodies.DelComment kind id) = shows_comment id page.comments ≡ true
IsAllowed page user (bodies.Schedule host service starts ends fixed trigger lasts author text) =
    Shows page host service × (author ≡ user)
IsAllowed page user (bodies.ScheduleServices host starts ends fixed trigger lasts author text) =
    Shows page host None × (author ≡ user)
IsAllowed page user (bodies.DelDowntime kind id) = shows_downtime id page.downtimes ≡ true
IsAllowed page user (bodies.Passive host service on) = Shows page host service
IsAllowed page user other = ⊥
