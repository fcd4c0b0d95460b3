use Rattle.std.proofs.Common.{◌≡◌, ◌++◌, drop, map}
use Rattle.json.specs.Tree.{json_tokens, members_tokens}
use Rattle.status_export.specs.Document.{members_of}
use Rattle.status_export.specs.Lines.{line_json, member_json}
use Rattle.status_export.proofs.lines.push_line.Given as goal

abbrev pub invariant-loop-member : goal.invariant-loop-member
invariant-loop-member l = record {
  before : l.writer.before ≡ l.fn.writer.before;
  added : l.writer.tokens ++ members_tokens (members_of (map member_json (drop l.member-index l.given)))
      ≡ l.fn.writer.tokens ++ json_tokens (line_json l.given);
}
