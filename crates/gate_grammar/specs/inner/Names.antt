-- Only proofs and private functions use this file: the names that a body's command begins with.
use Rattle.std.specs.Prelude.{List, [], None}
use Rattle.gate_model.specs.declared.submission.Body.{Body}
use Rattle.gate_model.specs.declared.submission.Body.TheVariants as body
use Rattle.gate_grammar.specs.Arguments.{ArgumentValue}
use Rattle.gate_grammar.specs.Commands.{object_names}

-- the names of the body's object; none where an id stands for it, or where there is no object
abbrev pub names_in : Body → List ArgumentValue
names_in (body.Result host service code output) = object_names host service
names_in (body.AddComment host service persistent author text) = object_names host service
names_in (body.DelAllComments host service) = object_names host service
names_in (body.Acknowledge host service sticky notify persistent author text) = object_names host service
names_in (body.RemoveAck host service) = object_names host service
names_in (body.Schedule host service starts ends fixed trigger lasts author text) = object_names host service
names_in (body.Passive host service on) = object_names host service
names_in (body.ScheduleServices host starts ends fixed trigger lasts author text) = object_names host None
names_in body = []
