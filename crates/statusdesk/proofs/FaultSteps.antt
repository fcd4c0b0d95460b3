-- The answer to a form that isn't admitted, by whether it was sent before.
use Rattle.std.proofs.Common.{ℕ, Bool, true, false, List}
use Rattle.http_server.specs.declared.response.Response.{Response}
use Rattle.desk_guard.specs.declared.refusal.Refusal.TheVariants.{WrongMethod, WrongHost, OtherSite, WrongKind, NoUser, UnknownUser, OldToken, Repeated, TooMany, OutOfMemory}
use Rattle.desk_forms.specs.declared.admitting.AdmitFault.{AdmitFault}
use Rattle.desk_forms.specs.declared.admitting.AdmitFault.TheVariants.{Form, Refused}
use Rattle.desk_forms.specs.Admitted.{status_of}
use Rattle.statusdesk.specs.Responses.{IsRefusedWith, IsSentTo}
use Rattle.statusdesk.specs.Commanding.{IsFaultAnswer}
use Rattle.statusdesk.specs.inner.Repeating.{is_repeated}

abbrev pub AnswerBy : Bool → List ℕ → AdmitFault → Response → Type 0
AnswerBy true page fault response = IsSentTo page response
AnswerBy false page fault response = IsRefusedWith (status_of fault) response

pub fault_answer : (page : List ℕ) (fault : AdmitFault) (response : Response)
    → AnswerBy (is_repeated fault) page fault response → IsFaultAnswer page fault response
fault_answer page (Form fault) response answer = answer
fault_answer page (Refused WrongMethod) response answer = answer
fault_answer page (Refused WrongHost) response answer = answer
fault_answer page (Refused OtherSite) response answer = answer
fault_answer page (Refused WrongKind) response answer = answer
fault_answer page (Refused NoUser) response answer = answer
fault_answer page (Refused UnknownUser) response answer = answer
fault_answer page (Refused OldToken) response answer = answer
fault_answer page (Refused Repeated) response answer = answer
fault_answer page (Refused TooMany) response answer = answer
fault_answer page (Refused OutOfMemory) response answer = answer
