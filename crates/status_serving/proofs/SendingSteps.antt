-- What is sent, of the gateways whose texts were read.
use Rattle.std.proofs.Common.{◌≡◌, ℕ, Bool, true, false, List, [], map, codes, sym, subst}
use Rattle.std.specs.List.{AllZip}
use Rattle.std.proofs.lemmas.Bool.{true≢false}
use Rattle.form_urlencoded.specs.Form.{raw_pairs}
use Rattle.http_server.specs.declared.response.Response.{Response}
use Rattle.status_memory.specs.declared.history.GatewayChange.{GatewayChange}
use Rattle.status_merge.specs.declared.gateway.Gateway.{Gateway}
use Rattle.page_watching.specs.declared.places.Place.{Place}
use Rattle.page_watching.specs.declared.watching.Seen.{Seen}
use Rattle.page_watching.specs.Watching.{seen_place}
use Rattle.web_connections.specs.Answers.{IsSent}
use Rattle.status_serving.specs.declared.headings.Heading.{Heading}
use Rattle.status_serving.specs.declared.bodies.Form.{Form}
use Rattle.status_serving.specs.declared.changing.ChangesForm.{ChangesForm}
use Rattle.status_serving.specs.Changing.{AreChanges, IsChangesText, IsChangesBody, kind_of}
use Rattle.status_serving.specs.Pages.{IsShown, IsStatusText, IsStatusBody, status_kind}
use Rattle.status_serving.specs.Naming.{IsObjectText, IsObjectBody}
use Rattle.status_serving.specs.Sending.{status_code, object_code, IsStatusOf, AreChangesOf, IsObjectOf}

-- ---- bodies

pub status_made : (whole : Bool) (heading : Heading) (clock : ℕ) (seen : List Seen) (found shown : List Gateway) (query : List ℕ)
    (form : Form) (body : List ℕ) → whole ≡ true → AllZip (IsShown clock) seen found → shown ≡ found
    → IsStatusText heading shown query clock form body → IsStatusBody whole heading seen query clock form body
status_made true heading clock seen found shown query form body is are same text =
    (shown, subst (AllZip (IsShown clock) seen) (sym same) are, text)
status_made false heading clock seen found shown query form body is are same text = absurd (true≢false (sym is))

pub no_status : (whole : Bool) (heading : Heading) (clock : ℕ) (seen : List Seen) (query : List ℕ) (form : Form) (body : List ℕ)
    → whole ≡ false → body ≡ [] → IsStatusBody whole heading seen query clock form body
no_status true heading clock seen query form body is none = absurd (true≢false is)
no_status false heading clock seen query form body is none = none

pub changes_made : (whole : Bool) (heading : Heading) (clock : ℕ) (seen : List Seen) (kept pages : List Gateway)
    (found shown : List GatewayChange) (form : ChangesForm) (body : List ℕ) → whole ≡ true
    → AllZip (IsShown clock) seen kept → pages ≡ kept → AreChanges seen found → shown ≡ found
    → IsChangesText heading pages shown clock form body → IsChangesBody whole heading seen clock form body
changes_made true heading clock seen kept pages found shown form body is all alike are same text =
    (pages, subst (AllZip (IsShown clock) seen) (sym alike) all, (shown, subst (AreChanges seen) (sym same) are, text))
changes_made false heading clock seen kept pages found shown form body is all alike are same text =
    absurd (true≢false (sym is))

pub no_changes : (whole : Bool) (heading : Heading) (clock : ℕ) (seen : List Seen) (form : ChangesForm) (body : List ℕ)
    → whole ≡ false → body ≡ [] → IsChangesBody whole heading seen clock form body
no_changes true heading clock seen form body is none = absurd (true≢false is)
no_changes false heading clock seen form body is none = none

pub object_made : (whole : Bool) (heading : Heading) (clock : ℕ) (seen : List Seen) (gateways : List Gateway)
    (kept changes : List GatewayChange) (query : List ℕ) (body : List ℕ) → whole ≡ true
    → AreChanges seen kept → changes ≡ kept
    → IsObjectText heading gateways changes query clock body → IsObjectBody whole heading seen gateways query clock body
object_made true heading clock seen gateways kept changes query body is all alike text =
    (changes, subst (AreChanges seen) (sym alike) all, text)
object_made false heading clock seen gateways kept changes query body is all alike text = absurd (true≢false (sym is))

pub no_object : (whole : Bool) (heading : Heading) (clock : ℕ) (seen : List Seen) (gateways : List Gateway)
    (query : List ℕ) (body : List ℕ) → whole ≡ false → body ≡ []
    → IsObjectBody whole heading seen gateways query clock body
no_object true heading clock seen gateways query body is none = absurd (true≢false is)
no_object false heading clock seen gateways query body is none = none

-- ---- answers

pub shown_as : (heading : Heading) (places : List Place) (clock : ℕ) (seen known : List Seen) (query : List ℕ) (form : Form) (whole : Bool)
    (body : List ℕ) (code : ℕ) (kind : List ℕ) (response : Response)
    → map seen_place seen ≡ places → known ≡ seen → IsStatusBody whole heading known query clock form body
    → code ≡ status_code known form → kind ≡ status_kind form → IsSent code kind body response
    → IsStatusOf heading places clock query form whole response
shown_as heading places clock seen known query form whole body code kind response at same made coded typed sent = record {
  seen = seen;
  body = body;
  at = at;
  made = subst (λ (seen : List Seen). IsStatusBody whole heading seen query clock form body) same made;
  sent = subst (λ (seen : List Seen). IsSent (status_code seen form) (status_kind form) body response) same
      (subst (λ (code : ℕ). IsSent code (status_kind form) body response) coded
      (subst (λ (kind : List ℕ). IsSent code kind body response) typed sent));
}

pub listed_as : (heading : Heading) (places : List Place) (clock : ℕ) (seen known : List Seen) (form : ChangesForm) (whole : Bool) (body : List ℕ)
    (response : Response)
    → map seen_place seen ≡ places → known ≡ seen → IsChangesBody whole heading known clock form body
    → IsSent 200 (kind_of form) body response → AreChangesOf heading places clock form whole response
listed_as heading places clock seen known form whole body response at same made sent = record {
  seen = seen;
  body = body;
  at = at;
  made = subst (λ (seen : List Seen). IsChangesBody whole heading seen clock form body) same made;
  sent = sent;
}

pub named_as : (heading : Heading) (places : List Place) (clock : ℕ) (seen known : List Seen)
    (found shown : List Gateway) (query : List ℕ) (whole : Bool) (body : List ℕ) (code : ℕ) (response : Response)
    → map seen_place seen ≡ places → known ≡ seen → AllZip (IsShown clock) known found → shown ≡ found
    → IsObjectBody whole heading known shown query clock body
    → code ≡ object_code known shown (raw_pairs query) → IsSent code (codes "text/html; charset=utf-8") body response
    → IsObjectOf heading places clock query whole response
named_as heading places clock seen known found shown query whole body code response at same are alike made coded sent = record {
  seen = known;
  gateways = shown;
  body = body;
  at = subst (λ (seen : List Seen). map seen_place seen ≡ places) (sym same) at;
  shown = subst (AllZip (IsShown clock) known) (sym alike) are;
  made = made;
  sent = subst (λ (code : ℕ). IsSent code (codes "text/html; charset=utf-8") body response) coded sent;
}
