-- The page of the object that the query of a URL names, of what is kept of gateways: `IsObjectBody`. Own rules.
use Rattle.std.specs.Prelude.{◌≡◌, ℕ, Bool, true, false, List, [], codes}
use Rattle.form_urlencoded.specs.Form.{raw_pairs}
use Rattle.status_memory.specs.declared.history.GatewayChange.{GatewayChange}
use Rattle.status_merge.specs.declared.gateway.Gateway.{Gateway}
use Rattle.status_view.specs.declared.one_object.ObjectAsked.{ObjectAsked}
use Rattle.status_merge.specs.Values.{value_in}
use Rattle.status_view.specs.OneObject.{IsObjectPage}
use Rattle.page_watching.specs.declared.watching.Seen.{Seen}
use Rattle.status_serving.specs.declared.headings.Heading.{Heading}
use Rattle.status_serving.specs.Changing.{AreChanges}

-- a query asks for this object, of these gateways and changes at this clock
pub record AsksFor (heading : Heading) (gateways : List Gateway) (changes : List GatewayChange) (query : List ℕ) (now : ℕ)
    (asked : ObjectAsked) : Type 0 where
  pub title : asked.title.now ≡ heading.title.now
  pub clock : asked.clock ≡ now
  pub refresh : asked.refresh ≡ heading.refresh
  pub host : asked.host.now ≡ value_in (codes "host") (raw_pairs query)
  pub service : asked.service.now ≡ value_in (codes "service") (raw_pairs query)
  pub gateway : asked.gateway.now ≡ value_in (codes "gateway") (raw_pairs query)
  pub pages : asked.gateways.now ≡ gateways
  pub kept : asked.changes.now ≡ changes

-- the page of the object that a query asks for
abbrev pub IsObjectText : Heading → List Gateway → List GatewayChange → List ℕ → ℕ → List ℕ → Type 0
IsObjectText heading gateways changes query clock body =
    (asked : ObjectAsked) × AsksFor heading gateways changes query clock asked × IsObjectPage asked body

-- the same with the changes that are kept, for an answer that has a body; nothing for another
abbrev pub IsObjectBody : Bool → Heading → List Seen → List Gateway → List ℕ → ℕ → List ℕ → Type 0
IsObjectBody true heading seen gateways query clock body =
    (changes : List GatewayChange) × AreChanges seen changes × IsObjectText heading gateways changes query clock body
IsObjectBody false heading seen gateways query clock body = body ≡ []
