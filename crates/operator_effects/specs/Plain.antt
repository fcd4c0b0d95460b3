-- A request whose names and texts have a page's escapes, and what it stands for: `plain_request`. Own rule: which words.
use Rattle.std.specs.Prelude.{map, option_map}
use Rattle.status_reading.specs.Plain.{plain_bytes}
use Rattle.operator_commands.specs.declared.request.Object.{Object}
use Rattle.operator_commands.specs.declared.request.Remark.{Remark}
use Rattle.operator_commands.specs.declared.request.Request.{Request}
use Rattle.operator_commands.specs.declared.request.Request.TheVariants as request

abbrev pub plain_object : Object → Object
plain_object object = record { host = plain_bytes object.host; service = option_map plain_bytes object.service }

abbrev pub plain_remark : Remark → Remark
plain_remark remark = record { text = plain_bytes remark.text; author = option_map plain_bytes remark.author }

-- names, texts, authors and outputs stand for others; ids, times and words that are one of a few stay
abbrev pub plain_request : Request → Request
plain_request (request.Ack object remark sticky persistent) =
    request.Ack (plain_object object) (plain_remark remark) sticky persistent
plain_request (request.Unack object) = request.Unack (plain_object object)
plain_request (request.Comment object remark persistent) =
    request.Comment (plain_object object) (plain_remark remark) persistent
plain_request (request.Uncomment words all) = request.Uncomment (map plain_bytes words) all
plain_request (request.Downtime object remark window services) =
    request.Downtime (plain_object object) (plain_remark remark) window services
plain_request (request.Cancel ids) = request.Cancel ids
plain_request (request.Passive setting object) = request.Passive setting (plain_object object)
plain_request (request.Result object state output) = request.Result (plain_object object) state (plain_bytes output)
plain_request request.Shutdown = request.Shutdown
