-- Fields that are added one after another.
use Rattle.std.proofs.Common.{◌≡◌, ℕ, List, [], ◌∷◌, ◌++◌, Result, Ok, Err, ap, subst, ◌∙◌, append_assoc}
use Rattle.std.specs.Result.{OnOk}
use Rattle.http_server.specs.declared.response.Response.{Response}
use Rattle.http_server.specs.Response.{IsResponse}
use Rattle.web_connections.specs.Answers.{Extends, body_fields}

-- a field with this name and this value
abbrev pub Adds : List (List ℕ × List ℕ) → List (List ℕ × List ℕ) → List ℕ → List ℕ → Type 0
Adds old new name value = new ≡ old ++ (name, value) ∷ []

two : (a b c : List (List ℕ × List ℕ)) (n m v w : List ℕ) → Adds a b n v → Adds b c m w → c ≡ a ++ (n, v) ∷ (m, w) ∷ []
two a b c n m v w first second =
    second ∙ ap (λ known. known ++ (m, w) ∷ []) first ∙ append_assoc a ((n, v) ∷ []) ((m, w) ∷ [])

pub valued : (old new : List (List ℕ × List ℕ)) (name value other : List ℕ) → Adds old new name value → value ≡ other
    → Adds old new name other
valued old new name value other adds same = adds ∙ ap (λ (value : List ℕ). old ++ (name, value) ∷ []) same

pub named : (old new : List (List ℕ × List ℕ)) (name other value : List ℕ) → Adds old new name value → name ≡ other
    → Adds old new other value
named old new name other value adds same = adds ∙ ap (λ (name : List ℕ). old ++ (name, value) ∷ []) same

four : (a b c d e : List (List ℕ × List ℕ)) (n m o p v w x y : List ℕ) → Adds a b n v → Adds b c m w → Adds c d o x
    → Adds d e p y
    → e ≡ a ++ (n, v) ∷ (m, w) ∷ (o, x) ∷ (p, y) ∷ []
four a b c d e n m o p v w x y first second third fourth =
    two c d e o p x y third fourth
    ∙ ap (λ known. known ++ (o, x) ∷ (p, y) ∷ []) (two a b c n m v w first second)
    ∙ append_assoc a ((n, v) ∷ (m, w) ∷ []) ((o, x) ∷ (p, y) ∷ [])

pub five : (a b c d e f : List (List ℕ × List ℕ)) (n m o p q v w x y z : List ℕ) → Adds a b n v → Adds b c m w → Adds c d o x
    → Adds d e p y → Adds e f q z
    → f ≡ a ++ (n, v) ∷ (m, w) ∷ (o, x) ∷ (p, y) ∷ (q, z) ∷ []
five a b c d e f n m o p q v w x y z first second third fourth fifth =
    fifth
    ∙ ap (λ known. known ++ (q, z) ∷ []) (four a b c d e n m o p v w x y first second third fourth)
    ∙ append_assoc a ((n, v) ∷ (m, w) ∷ (o, x) ∷ (p, y) ∷ []) ((q, z) ∷ [])

pub on_ok : {T E P Q : Type 0} (result : Result T E) → (P → Q) → OnOk result P → OnOk result Q
on_ok (Ok value) step known = step known
on_ok (Err error) step known = tt

-- ---- responses

-- a body of a type that is another's
pub extends_as : (old new : Response) (kind other_kind caching other_caching text other_text : List ℕ)
    → kind ≡ other_kind → caching ≡ other_caching → text ≡ other_text
    → Extends (body_fields kind caching) text old new → Extends (body_fields other_kind other_caching) other_text old new
extends_as old new kind other_kind caching other_caching text other_text typed cached written extends =
    subst (λ (text : List ℕ). Extends (body_fields other_kind other_caching) text old new) written
    (subst (λ (caching : List ℕ). Extends (body_fields other_kind caching) text old new) cached
    (subst (λ (kind : List ℕ). Extends (body_fields kind caching) text old new) typed extends))

-- what a response becomes that had no content
pub sent_as : (status : ℕ) (front fields : List (List ℕ × List ℕ)) (content : List ℕ) (old new : Response)
    → IsResponse status front [] old → Extends fields content old new → IsResponse status (front ++ fields) content new
sent_as status front fields content old new was extends = record {
  status = extends.status ∙ was.status;
  headers = extends.headers ∙ ap (λ front. front ++ fields) was.headers;
  body = extends.body ∙ ap (λ (known : List ℕ). known ++ content) was.body;
}
