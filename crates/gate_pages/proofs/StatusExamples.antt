-- Worked examples of the status page: each holds by computing the definitions. The object table has the host web1 and
-- its service HTTP, each with a threshold of 300 seconds; it is opened at 1000.
use Rattle.std.proofs.Common.{◌≡◌, ℕ, List, [], ◌∷◌, ◌++◌, Option, refl}
use Rattle.std.specs.Prelude.{Some, None, pos, codes}
use Rattle.std.specs.Fmt.{digits}
use Rattle.gate_model.specs.declared.object.ObjectLine.{ObjectLine}
use Rattle.gate_model.specs.declared.submission.Body.{Body}
use Rattle.gate_model.specs.declared.submission.Body.TheVariants as body
use Rattle.gate_model.specs.declared.record.Moment.{Moment}
use Rattle.gate_model.specs.declared.record.Record.{Record}
use Rattle.gate_model.specs.Escaping.{escaped}
use Rattle.gate_pages.specs.StatusPage.{status_text, status_text_at, board_at}

abbrev table : List ObjectLine
table =
    record { host = codes "web1"; service = None; threshold = 300 }
    ∷ record { host = codes "web1"; service = Some (codes "HTTP"); threshold = 300 }
    ∷ []

abbrev moment : ℕ → Moment
moment seconds = record { 0 = seconds }

abbrev at : ℕ → ℕ → ℕ → Body → Record
at seconds client number what =
    record { moment = moment seconds; item = record { client = client; number = number; body = what } }

-- the service HTTP
abbrev http : Option (List ℕ)
http = Some (codes "HTTP")

abbrev page_at : List Record → ℕ → List ℕ
page_at records seconds = status_text_at table (moment 1000) records (moment seconds)

-- ---- a comment, a downtime, a problem and its acknowledgement

abbrev acknowledged_in_downtime : List Record
acknowledged_in_downtime =
    at 1100 2 1 (body.AddComment (codes "web1") None 1 (codes "ann") (codes "rack 4"))
    ∷ at 1100 2 2 (body.Schedule (codes "web1") http (moment 1200) (moment 1300) 0 0 50 (codes "bob") (codes "reboot"))
    ∷ at 1250 1 1 (body.Result (codes "web1") http (pos 2) (codes "timeout; 10s"))
    ∷ at 1255 2 3 (body.Acknowledge (codes "web1") http 2 0 0 (codes "ann") (codes "on it"))
    ∷ []

in_downtime :
    page_at acknowledged_in_downtime 1260
    ≡ codes "status 1260\nobject;web1;;PENDING;-;fresh;-;0;\nobject;web1;HTTP;CRITICAL;1250;fresh;sticky;1;timeout; 10s\ncomment;1;web1;;user;1;1100;ann;rack 4\ncomment;2;web1;HTTP;downtime;0;1100;bob;reboot\ncomment;3;web1;HTTP;ack;0;1255;ann;on it\ndowntime;1;web1;HTTP;flexible;0;1200;1300;50;1250;bob;reboot\n"
unfolding digits
in_downtime = refl

after_the_downtime :
    page_at acknowledged_in_downtime 1301
    ≡ codes "status 1301\nobject;web1;;PENDING;-;stale;-;0;\nobject;web1;HTTP;CRITICAL;1250;fresh;sticky;0;timeout; 10s\ncomment;1;web1;;user;1;1100;ann;rack 4\ncomment;3;web1;HTTP;ack;0;1255;ann;on it\n"
unfolding digits
after_the_downtime = refl

-- a board that is marked closing ends with the close's moment
closing_comes_last :
    status_text (record (board_at table (moment 1000) [] (moment 1000)) { closing = Some (moment 1200) })
    ≡ page_at [] 1000 ++ codes "closing;1200\n"
unfolding digits
closing_comes_last = refl

-- ---- freshness

stale_without_a_result :
    page_at (at 1000 1 1 (body.Result (codes "web1") http (pos 1) (codes "slow")) ∷ []) 1301
    ≡ codes "status 1301\nobject;web1;;PENDING;-;stale;-;0;\nobject;web1;HTTP;WARNING;1000;stale;-;0;slow\n"
unfolding digits
stale_without_a_result = refl

-- ---- a beginning that is yet to come

abbrev scheduled : List Record
scheduled =
    at 1100 2 1 (body.Schedule (codes "web1") None (moment 1200) (moment 1300) 1 0 0 (codes "bob") (codes "disk"))
    ∷ []

beginning_yet_to_come :
    page_at scheduled 1199
    ≡ codes "status 1199\nobject;web1;;PENDING;-;fresh;-;0;\nobject;web1;HTTP;PENDING;-;fresh;-;0;\ncomment;1;web1;;downtime;0;1100;bob;disk\ndowntime;1;web1;;fixed;0;1200;1300;0;-;bob;disk\n"
unfolding digits
beginning_yet_to_come = refl

beginning_that_has_come :
    page_at scheduled 1200
    ≡ codes "status 1200\nobject;web1;;PENDING;-;fresh;-;1;\nobject;web1;HTTP;PENDING;-;fresh;-;0;\ncomment;1;web1;;downtime;0;1100;bob;disk\ndowntime;1;web1;;fixed;0;1200;1300;0;1200;bob;disk\n"
unfolding digits
beginning_that_has_come = refl

-- ---- escapes

escapes : escaped (92 ∷ 9 ∷ 59 ∷ 127 ∷ 195 ∷ 169 ∷ []) ≡ codes "\\\\\\x09;\\x7f" ++ 195 ∷ 169 ∷ []
escapes = refl
