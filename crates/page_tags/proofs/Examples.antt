-- What the tokenizer finds in a few documents.
use Rattle.std.specs.Prelude.{◌≡◌, codes}
use Rattle.std.proofs.Common.{refl}
use Rattle.page_tags.specs.Tags.{tags}

link : tags (codes "<a href=\"/?host=a>b\" title='<'>1 &lt; 2</a>") ≡ codes "<a href=\"\" title=''></a>"
link = refl

-- a text that stands there as it is brings a tag
script : tags (codes "<td>down <script>x</script></td>") ≡ codes "<td><script></script></td>"
script = refl

-- a quote in a value ends it, and what follows is an attribute
handler : tags (codes "<b title=\"a\" onclick=\"x\">") ≡ codes "<b title=\"\" onclick=\"\">"
handler = refl
