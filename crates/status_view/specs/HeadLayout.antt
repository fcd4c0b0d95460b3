-- The head of a page: `document_nodes`, `title_nodes` and `alarms_nodes`. Own rules.
use Rattle.std.specs.Prelude.{ℕ, nat_lt, List, [], ◌∷◌, ◌++◌, Option, Some, None, codes}
use Rattle.std.specs.List.{flat_map}
use Rattle.status_view.specs.declared.layout.Slot.TheVariants as slot
use Rattle.status_memory.specs.declared.alarm.Alarm.{Alarm}
use Rattle.status_memory.specs.declared.alarm.Alarm.TheVariants.{NoPage, NoNewPage, StandsStill, ClockAhead, Closing, FewerObjects, OtherObjects}
use Rattle.status_view.specs.Shapes.{GatewayShapeView}
use Rattle.status_view.specs.Layout.{NodeView, Markup, Number, Text, nodes_if, each_indexed}
use Rattle.status_view.specs.Times.{span_nodes, time_nodes}

-- ---- the document's head

-- the browser asks again after these seconds; never where they are 0
unfoldable pub refresh_nodes : ℕ → List NodeView
refresh_nodes seconds =
    nodes_if (nat_lt 0 seconds)
    (Markup (codes "<meta http-equiv=\"refresh\" content=\"") ∷ Number seconds ∷ Markup (codes "\">") ∷ [])

-- the count of unhandled problems, where there are some
unfoldable pub unhandled_nodes : ℕ → List NodeView
unhandled_nodes count = nodes_if (nat_lt 0 count) (Markup (codes "(") ∷ Number count ∷ Markup (codes ") ") ∷ [])

-- the head, by the seconds of refresh and the count of unhandled problems
unfoldable pub document_nodes : ℕ → ℕ → List NodeView
document_nodes refresh unhandled =
    (Markup (codes "<!DOCTYPE html>\n<html lang=\"en\"><head><meta charset=\"utf-8\">") ∷ [])
    ++ (Markup (codes "<meta name=\"viewport\" content=\"width=device-width,initial-scale=1\">") ∷ [])
    ++ refresh_nodes refresh
    ++ (Markup (codes "<link rel=\"stylesheet\" href=\"/style.css\">")
    ∷ Markup (codes "<link rel=\"alternate\" type=\"application/atom+xml\" href=\"/changes.atom\"><title>")
    ∷ [])
    ++ unhandled_nodes unhandled
    ++ (Text slot.Title ∷ Markup (codes "</title></head>\n<body>") ∷ [])

-- ---- the title, and the moment of each gateway's page

-- a gateway, and the moment of its page
unfoldable pub page_moment_nodes : ℕ → ℕ → List NodeView
page_moment_nodes index moment =
    (Markup (codes "<p><bdi>") ∷ Text (slot.Gateway index) ∷ Markup (codes "</bdi> at ") ∷ [])
    ++ time_nodes moment
    ++ (Markup (codes "</p>") ∷ [])

-- nothing where the gateway shows no page
unfoldable pub gateway_nodes : ℕ → GatewayShapeView → List NodeView
gateway_nodes index gateway = elim gateway.moment [
  | Some moment ↦ page_moment_nodes index moment
  | None ↦ []
]

-- the header: the title, the links to the pages, and the moments; the main part begins after it
unfoldable pub title_nodes : List GatewayShapeView → List NodeView
title_nodes gateways =
    (Markup (codes "<header><h1><a href=\"/\">")
    ∷ Text slot.Title
    ∷ Markup (codes "</a></h1><nav aria-label=\"Pages\"><a href=\"/\">Status</a> ")
    ∷ Markup (codes "<a href=\"/changes\">Changes</a> <a href=\"/comments\">Comments</a> ")
    ∷ Markup (codes "<a href=\"/downtime\">Downtime</a></nav>")
    ∷ [])
    ++ each_indexed gateway_nodes gateways
    ++ (Markup (codes "</header>\n<main>\n") ∷ [])

-- ---- alarms

-- the beginning of an alarm about the gateway of this index
unfoldable pub alarm_begin : ℕ → List NodeView
alarm_begin index =
    Markup (codes "<p class=\"alarm\" role=\"alert\"><strong>Gateway <bdi>")
    ∷ Text (slot.Gateway index)
    ∷ Markup (codes "</bdi></strong> ")
    ∷ []

-- it shows no status, for its cause
unfoldable pub missing_nodes : ℕ → List NodeView
missing_nodes index =
    alarm_begin index
    ++ (Markup (codes "shows no status: ")
    ∷ Text (slot.Cause index)
    ∷ Markup (codes ". Its objects are missing below, or are as another gateway has them.</p>\n")
    ∷ [])

-- it is closing
unfoldable pub closing_nodes : ℕ → List NodeView
closing_nodes index = alarm_begin index ++ (Markup (codes "is closing.</p>\n") ∷ [])

-- its page is this many seconds old
unfoldable pub still_nodes : ℕ → ℕ → List NodeView
still_nodes index age =
    alarm_begin index
    ++ (Markup (codes "stands still: its page is ") ∷ [])
    ++ span_nodes age
    ++ (Markup (codes " old, and its objects are stale. Its log may be full.</p>\n") ∷ [])

-- its page's moment is this many seconds after the clock
unfoldable pub ahead_nodes : ℕ → ℕ → List NodeView
ahead_nodes index seconds =
    alarm_begin index
    ++ (Markup (codes "has a clock that is ") ∷ [])
    ++ span_nodes seconds
    ++ (Markup (codes " ahead: one of the two clocks is wrong. Its objects are stale.</p>\n") ∷ [])

-- its page is this many seconds old, and there is no newer one
unfoldable pub old_nodes : ℕ → ℕ → List NodeView
old_nodes index age =
    alarm_begin index
    ++ (Markup (codes "shows no new page: ") ∷ Text (slot.Cause index) ∷ Markup (codes ". The one of ") ∷ [])
    ++ span_nodes age
    ++ (Markup (codes " ago is shown, and its objects are stale.</p>\n") ∷ [])

-- its page shows this many objects, and an earlier one more
unfoldable pub fewer_nodes : ℕ → ℕ → ℕ → List NodeView
fewer_nodes index objects most =
    alarm_begin index
    ++ (Markup (codes "shows ") ∷ Number objects ∷ Markup (codes " objects, and has shown ") ∷ Number most
    ∷ Markup (codes ". Its page may be cut off.</p>\n") ∷ [])

-- one of its pages has other objects than the one before it
unfoldable pub other_nodes : ℕ → List NodeView
other_nodes index =
    alarm_begin index
    ++ (Markup (codes "shows other objects than within the hour before: its address may be another gateway's.</p>\n") ∷ [])

-- the alarm about the gateway of this index
unfoldable pub alarm_nodes : ℕ → Alarm → List NodeView
alarm_nodes index NoPage = missing_nodes index
alarm_nodes index (NoNewPage age) = old_nodes index age
alarm_nodes index (StandsStill age) = still_nodes index age
alarm_nodes index (ClockAhead seconds) = ahead_nodes index seconds
alarm_nodes index Closing = closing_nodes index
alarm_nodes index (FewerObjects objects most) = fewer_nodes index objects most
alarm_nodes index OtherObjects = other_nodes index

-- all alarms about it
abbrev pub alarms_of : ℕ → GatewayShapeView → List NodeView
alarms_of index gateway = flat_map (alarm_nodes index) gateway.alarms

abbrev pub alarms_nodes : List GatewayShapeView → List NodeView
alarms_nodes gateways = each_indexed alarms_of gateways
