-- Commands that are answered one after another.
use Rattle.std.proofs.Common.{◌≡◌, ◌≢◌, ℕ, ◌+◌, ◌<◌, ◌≤◌, List, [], ◌∷◌, ◌++◌, length, length-append, get_or, drop, Option, refl, sym, ap, subst, ◌∙◌, arith, append_assoc, append-nil}
use Rattle.std.specs.List.{flat_map}
use Rattle.std.specs.Io.KnownBytes.{Consumes}
use Rattle.std.proofs.lemmas.List.{drop_all}
use Rattle.std.proofs.lemmas.List.Concat.{flat_map-append}
use Rattle.gate_grammar.specs.declared.commands.Command.{Command}
use Rattle.gate_grammar.specs.Writability.{IsWritable}
use Rattle.gate_reader.specs.Lines.{HasNoBreak}
use Rattle.gate_streams.specs.Sink.{Writes}
use Rattle.gate_streams.proofs.Outputs.{writes_none, writes_on}
use Rattle.gate_streams.proofs.Calls.{consumes_none, consumes_append}
use Rattle.operator_lines.specs.declared.asking.AskFault.{AskFault}
use Rattle.operator_lines.specs.declared.asking.AskFault.TheVariants.{Unsent}
use Rattle.operator_lines.specs.declared.sending.SendFault.{SendFault}
use Rattle.operator_lines.specs.declared.sending.SendFault.TheVariants.{Unwritable}
use Rattle.operator_lines.specs.declared.replies.Reply.{Reply}
use Rattle.operator_lines.specs.Sending.{sent}
use Rattle.operator_lines.specs.Replies.{reply_line}
use Rattle.operator_lines.specs.Asking.{Connection, Answers, AnswersAll, HasNoReply, StopsWithin}
use Rattle.operator_lines.proofs.SendingSteps.{left_at}

-- a byte that is no LF is added
pub no_break_more : (line : List ℕ) (byte : ℕ) → HasNoBreak line → byte ≢ 10 → HasNoBreak (line ++ byte ∷ [])
no_break_more [] byte clean other = (other, tt)
no_break_more (first ∷ line) byte clean other = (clean.0, no_break_more line byte clean.1 other)

-- nothing more was read
pub read_no_more : (a b c : Option (List ℕ)) (line : List ℕ) → Consumes a b line → Consumes b c [] → Consumes a c line
read_no_more a b c line one none = subst (Consumes a c) (append-nil line) (consumes_append a b c line [] one none)

-- nothing of a command was written
pub not_sent : (cause : SendFault) (command : Command) (state : Connection) → (cause ≡ Unwritable → ¬ IsWritable command)
    → HasNoReply (Unsent cause) command state state
not_sent cause command state refused = record {
  unwritable = λ same. refused (cc);
  written = refl;
  line = [];
  read = consumes_none state.left;
  is_none = refl;
}

-- ---- several commands

-- the commands up to the rest are answered
pub record SoFar (commands rest : List Command) (old now : List Reply) (before after : Connection) : Type 0 where
  pub done : List Command
  pub given : List Reply
  pub whole : commands ≡ done ++ rest
  pub replies : now ≡ old ++ given
  pub all : AnswersAll done given before after

pub begun : (commands : List Command) (old : List Reply) (state : Connection) → SoFar commands commands old old state state
begun commands old state = record {
  done = [];
  given = [];
  whole = refl;
  replies = sym (append-nil old);
  all = record { each = refl; written = writes_none state.sink; read = consumes_none state.left };
}

one_more : (commands : List Command) (command : Command) (replies : List Reply) (reply : Reply) (a b c : Connection)
    → AnswersAll commands replies a b → Answers command reply b c → AnswersAll (commands ++ command ∷ []) (replies ++ reply ∷ []) a c
one_more commands command replies reply a b c all one =
    let bytes : flat_map sent (commands ++ command ∷ []) ≡ flat_map sent commands ++ sent command =
    flat_map-append sent commands (command ∷ []) ∙ ap (λ last. flat_map sent commands ++ last) (append-nil (sent command)) in
    let lines : flat_map reply_line (replies ++ reply ∷ []) ≡ flat_map reply_line replies ++ reply_line reply =
    flat_map-append reply_line replies (reply ∷ []) ∙ ap (λ last. flat_map reply_line replies ++ last) (append-nil (reply_line reply)) in
    let wrote : Writes b.sink c.sink (sent command) = record { appended = one.delivered.appended; none_failed = one.delivered.none_failed } in
    record {
      each = omega (arith, length-append replies (reply ∷ []), length-append commands (command ∷ []), all.each);
      written = subst (Writes a.sink c.sink) (sym bytes) (writes_on a.sink b.sink c.sink (flat_map sent commands) (sent command) all.written wrote);
      read = subst (Consumes a.left c.left) (sym lines) (consumes_append a.left b.left c.left (flat_map reply_line replies) (reply_line reply) all.read one.read);
    }

pub goes_on : (commands : List Command) (index : ℕ) (command : Command) (reply : Reply) (old now next : List Reply) (a b c : Connection)
    → index < length commands → command ≡ get_or commands index command → SoFar commands (drop index commands) old now a b
    → Answers command reply b c → next ≡ now ++ reply ∷ [] → SoFar commands (drop (index + 1) commands) old next a c
goes_on commands index command reply old now next a b c within is so one more = record {
  done = so.done ++ command ∷ [];
  given = so.given ++ reply ∷ [];
  whole = so.whole ∙ ap (λ rest. so.done ++ rest) (left_at commands index command within is)
      ∙ sym (append_assoc so.done (command ∷ []) (drop (index + 1) commands));
  replies = more ∙ ap (λ front. front ++ reply ∷ []) so.replies ∙ append_assoc old so.given (reply ∷ []);
  all = one_more so.done command so.given reply a b c so.all one;
}

pub stops : (fault : AskFault) (commands : List Command) (index : ℕ) (command : Command) (old now : List Reply) (a b c : Connection)
    → index < length commands → command ≡ get_or commands index command → SoFar commands (drop index commands) old now a b
    → HasNoReply fault command b c → (given : List Reply) × (now ≡ old ++ given) × StopsWithin fault commands given a c
stops fault commands index command old now a b c within is so none = (
  so.given,
  so.replies,
  record {
    answered = so.done;
    stopped = command;
    left = drop (index + 1) commands;
    whole = so.whole ∙ ap (λ rest. so.done ++ rest) (left_at commands index command within is);
    middle = b;
    replied = so.all;
    no_reply = none;
  },
)

pub ends : (commands : List Command) (index : ℕ) (old now : List Reply) (a b : Connection) → length commands ≤ index
    → SoFar commands (drop index commands) old now a b → (given : List Reply) × (now ≡ old ++ given) × AnswersAll commands given a b
ends commands index old now a b end so =
    let all : commands ≡ so.done = so.whole ∙ ap (λ rest. so.done ++ rest) (drop_all index commands end) ∙ append-nil so.done in
    (so.given, so.replies, subst (λ (done : List Command). AnswersAll done so.given a b) (sym all) so.all)
