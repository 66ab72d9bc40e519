-- Pieces at worked values.
use Rattle.std.proofs.Common.{◌≡◌, [], ◌∷◌, ◌++◌, true, false, codes, refl}
use Rattle.wf_html.specs.Behind.{is_name, said_behind}
use Rattle.wf_html.specs.Html.{escape, opened, closed, said, with_text, written}
use Rattle.wf_html.specs.Still.{has, has_handler}
use Rattle.wf_html.specs.declared.tag.Look.{Look}
use Rattle.wf_html.specs.declared.tag.Tag.{Tag}

script : escape (codes "<script>alert('&\"')</script>") ≡ codes "&lt;script&gt;alert(&#39;&amp;&quot;&#39;)&lt;/script&gt;"
script = refl

-- what is escaped already is escaped again
twice : escape (codes "&lt;") ≡ codes "&amp;lt;"
twice = refl

-- é, a tab and a line feed stay
others : escape (195 ∷ 169 ∷ 9 ∷ 10 ∷ []) ≡ 195 ∷ 169 ∷ 9 ∷ 10 ∷ []
others = refl

name : written [] (with_text Tag.Name (codes "a<b")) ≡ codes "<h2>a&lt;b</h2>"
name = refl

mark : written (codes "x") (opened (Tag.Mark Look.TimedOut) ∷ said (codes "TimedOut") ∷ closed (Tag.Mark Look.TimedOut) ∷ [])
    ≡ codes "x<span class=\"mark timed-out\">TimedOut</span>"
mark = refl

-- what stands in a text, in small letters or in capitals
script_tag : has (codes "<p><SCRIPT>") (codes "<script") ≡ true
script_tag = refl

at_the_end : has (codes "aab") (codes "ab") ≡ true
at_the_end = refl

cut_off : has (codes "ab<scrip") (codes "<script") ≡ false
cut_off = refl

handler : has_handler (codes "<p\nonClick=\"f()\">") ≡ true
handler = refl

no_handler : has_handler (codes "<meta content=\"x\">") ≡ false
no_handler = refl

-- what is said behind a name, and not elsewhere
heading : said_behind is_name (with_text Tag.Kind (codes "If") ++ (with_text Tag.Name (codes "A") ++ opened Tag.Name ∷ []))
    ≡ codes "A" ∷ []
heading = refl
