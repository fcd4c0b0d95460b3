-- From what a form can ask for to the commands that it makes: each is allowed.
use Rattle.std.proofs.Common.{◌≡◌, ℕ, suc, Bool, true, false, List, [], ◌∷◌, ◌++◌, length, length-append, refl, map, find, Option, Some, None, option_map, ok_or, Result, Ok, Err, unwrap_or, ap, sym, ◌∙◌, subst, inl, inr, arith, Contains}
use Rattle.std.proofs.lemmas.Bool.{cases_Bool}
use Rattle.std.specs.List.{AllByRecursion}
use Rattle.std.specs.Result.{result_ok}
use Rattle.gate_model.specs.declared.record.Moment.{Moment}
use Rattle.gate_model.specs.declared.submission.Body.{Body}
use Rattle.gate_model.specs.declared.submission.Body.TheVariants as bodies
use Rattle.status_reading.specs.Rows.{PageView}
use Rattle.operator_commands.specs.declared.request.Object.{Object}
use Rattle.operator_commands.specs.declared.request.Remark.{Remark}
use Rattle.operator_commands.specs.declared.request.Request.{Request}
use Rattle.operator_commands.specs.declared.request.Request.TheVariants as request
use Rattle.operator_commands.specs.declared.bodies.Times.{Times}
use Rattle.operator_commands.specs.declared.bodies.RequestFault.{RequestFault}
use Rattle.operator_commands.specs.declared.bodies.RequestFault.TheVariants.{BadSetting}
use Rattle.operator_commands.specs.Bodies.{author_of, schedule}
use Rattle.operator_commands.specs.Names.{setting_of}
use Rattle.operator_commands.specs.Times.{times_of}
use Rattle.operator_effects.specs.declared.commands.Deleted.TheVariants as deleted
use Rattle.operator_effects.specs.Commands.{deletion_of, commands_of}
use Rattle.desk_forms.specs.Offers.{IsOn, IsOffered, IsAllowed}

-- what is found is in the list
pub found_in : {X : Type 0} (test : X → Bool) (items : List X) (item : X) → find test items ≡ Some item → Contains items item
found_in test [] item is = cc
found_in test (first ∷ items) item is = elim (cases_Bool (test first)) [
  | inl passes ↦
      let same : Some first ≡ Some item = rw passes at is in
      let here : first ≡ item = cc in
      (0, omega arith, here)
  | inr fails ↦
      let later = found_in test items item (rw fails at is) in
      (suc later.0, omega (arith, later.1), later.2)
]

module _ (page : PageView) (user : List ℕ) where
  -- a list of one command, if that
  one_body : (made : Option Body) (list : List Body) → map Some list ≡ made ∷ []
      → ((body : Body) → made ≡ Some body → IsAllowed page user body) → AllByRecursion (IsAllowed page user) list
  one_body made [] is each = tt
  one_body made (body ∷ []) is each = (each body cc, tt)
  one_body made (body ∷ other ∷ more) is each = cc

  by_user : (remark : Remark) → remark.author ≡ None → author_of user remark ≡ user
  by_user remark none = ap (λ (author : Option (List ℕ)). unwrap_or author user) none

  made_is : (made body : Body) → Some made ≡ Some body → IsAllowed page user made → IsAllowed page user body
  made_is made body is allowed = let same : made ≡ body = cc in subst (IsAllowed page user) same allowed

  -- downtime of each service, where the object is a host
  of_services : (host : List ℕ) (service : Option (List ℕ)) (remark : Remark) (times : Times) (body : Body)
      → IsOn page (record { host = host; service = service }) → remark.author ≡ None
      → result_ok (schedule user (record { host = host; service = service }) remark times true) ≡ Some body
      → IsAllowed page user body
  of_services host None remark times body shown none is = made_is _ body is (shown, by_user remark none)
  of_services host (Some service) remark times body shown none is = cc

  scheduled : (object : Object) (remark : Remark) (times : Times) (services : Bool) (body : Body)
      → IsOn page object → remark.author ≡ None
      → result_ok (schedule user object remark times services) ≡ Some body → IsAllowed page user body
  scheduled object remark times true body shown none is = of_services object.host object.service remark times body shown none is
  scheduled object remark times false body shown none is = made_is _ body is (shown, by_user remark none)

  in_window : (times : Result Times RequestFault) (object : Object) (remark : Remark) (services : Bool) (body : Body)
      → IsOn page object → remark.author ≡ None
      → elim times [ Ok window ↦ result_ok (schedule user object remark window services) | Err fault ↦ None ] ≡ Some body
      → IsAllowed page user body
  in_window (Ok times) object remark services body shown none is = scheduled object remark times services body shown none is
  in_window (Err fault) object remark services body shown none is = cc

  by_setting : (setting : Option Bool) (object : Object) (body : Body) → IsOn page object
      → result_ok (ok_or (option_map (λ on. bodies.Passive object.host object.service on) setting) BadSetting) ≡ Some body
      → IsAllowed page user body
  by_setting (Some on) object body shown is = made_is _ body is shown
  by_setting None object body shown is = cc

  -- the commands of a request that a form can ask for
  pub allowed : (now : Moment) (asked : Request) (list : List Body) → IsOffered page asked
      → map Some list ≡ commands_of page now user asked → AllByRecursion (IsAllowed page user) list
  allowed now (request.Ack object remark sticky persistent) list offered is =
      one_body _ list is (λ body made. made_is _ body made (offered.0, by_user remark offered.1))
  allowed now (request.Unack object) list offered is = one_body _ list is (λ body made. made_is _ body made offered)
  allowed now (request.Comment object remark persistent) list offered is =
      one_body _ list is (λ body made. made_is _ body made (offered.0, by_user remark offered.1))
  allowed now (request.Uncomment (word ∷ []) false) list offered is =
      let delete = deletion_of deleted.Comment page in
      one_body _ list is (λ body made.
      made_is (delete offered.0) body (sym (ap (option_map delete) offered.1) ∙ made) offered.2)
  allowed now (request.Downtime object remark window services) list offered is =
      one_body _ list is (λ body made. in_window (times_of now window) object remark services body offered.0 offered.1 made)
  allowed now (request.Cancel (word ∷ [])) list offered is =
      let delete = deletion_of deleted.Downtime page in
      one_body _ list is (λ body made.
      made_is (delete offered.0) body (sym (ap (option_map delete) offered.1) ∙ made) offered.2)
  allowed now (request.Passive setting object) list offered is =
      one_body _ list is (λ body made. by_setting (setting_of setting) object body offered made)
  allowed now other list offered is = absurd offered

-- a list of one command
one_in : (made : Option Body) (list : List Body) → map Some list ≡ made ∷ [] → length list ≡ 1
one_in made [] is = cc
one_in made (body ∷ []) is = refl
one_in made (body ∷ other ∷ more) is = cc

-- a request that a form can ask for is one command
pub one_command : (page : PageView) (user : List ℕ) (now : Moment) (asked : Request) (list : List Body)
    → IsOffered page asked → map Some list ≡ commands_of page now user asked → length list ≡ 1
one_command page user now (request.Ack object remark sticky persistent) list offered is = one_in _ list is
one_command page user now (request.Unack object) list offered is = one_in _ list is
one_command page user now (request.Comment object remark persistent) list offered is = one_in _ list is
one_command page user now (request.Uncomment (word ∷ []) false) list offered is = one_in _ list is
one_command page user now (request.Downtime object remark window services) list offered is = one_in _ list is
one_command page user now (request.Cancel (word ∷ [])) list offered is = one_in _ list is
one_command page user now (request.Passive setting object) list offered is = one_in _ list is
one_command page user now other list offered is = absurd offered

-- the last of a list of one
pub only_one : {X : Type 0} (items front : List X) (one : X) → length items ≡ 1 → items ≡ front ++ one ∷ []
    → items ≡ one ∷ []
only_one items [] one is last = last
only_one items (first ∷ front) one is last =
    let many : length items ≡ suc (length (front ++ one ∷ [])) = ap length last in
    absurd (omega (arith, many, is, length-append front (one ∷ [])))
