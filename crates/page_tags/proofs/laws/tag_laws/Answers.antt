use Rattle.page_tags.proofs.Lists.{page_tags, object_tags, entries_tags, changes_tags, feed_tags}
use Rattle.page_tags.proofs.Desk.{desk_tags, marks_tags}
use Rattle.page_tags.proofs.laws.tag_laws.Goals as goal

pub returns-clause-page : goal.returns-clause-page
returns-clause-page c = page_tags

pub returns-clause-object : goal.returns-clause-object
returns-clause-object c = object_tags

pub returns-clause-entries : goal.returns-clause-entries
returns-clause-entries c = entries_tags

pub returns-clause-changes : goal.returns-clause-changes
returns-clause-changes c = changes_tags

pub returns-clause-feed : goal.returns-clause-feed
returns-clause-feed c = feed_tags

pub returns-clause-desk : goal.returns-clause-desk
returns-clause-desk c = desk_tags

pub returns-clause-marks : goal.returns-clause-marks
returns-clause-marks c = marks_tags
