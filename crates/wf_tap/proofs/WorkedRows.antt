-- Reports at worked outcomes, and characters at the edges of what XML can write.
use Rattle.std.proofs.Common.{◌≡◌, ℕ, List, [], ◌∷◌, ◌++◌, Some, None, true, false, pos, refl}
use Rattle.std.specs.Char.{encode_utf8}
use Rattle.std.specs.Fmt.{digits}
use Rattle.std.specs.Prelude.{codes, ⊤}
use Rattle.std.specs.Str.{chars}
use Rattle.wf_tap.specs.Escapes.{escaped, is_control, is_forbidden}
use Rattle.wf_tap.specs.Junit.{junit_of}
use Rattle.wf_tap.specs.Lines.{failure_line}
use Rattle.wf_tap.specs.Tap.{tap_of}
use Rattle.wf_tap.specs.declared.escapes.Place.{Place}
use Rattle.wf_tap.specs.declared.report.Failure.{Failure}
use Rattle.wf_tap.specs.declared.report.Outcome.{Outcome}
use Rattle.wf_tap.specs.declared.report.Results.{Results}
use Rattle.wf_val.specs.declared.val.Val.{Val}

-- what a row unfolds to be computed
unfoldable on_literals : ⊤
unfolding chars digits encode_utf8
on_literals = tt

abbrev passed : Outcome
passed = record { name = codes "order # 1"; failures = [] }

abbrev skipped : Failure
skipped = Failure.Differs (record { pointer = codes "/rows/3/code"; expected = Val.Text (codes "<1>"); found = Some (Val.Int (pos 2)) })

abbrev absent : Failure
absent = Failure.Differs (record { pointer = codes "/a"; expected = Val.Null; found = None })

abbrev failed : Outcome
failed = record { name = codes "b\\c\nd"; failures = skipped ∷ Failure.Says (codes "two\nlines") ∷ [] }

abbrev of : List ℕ → List Outcome → Results
of file os = record { file = file; outcomes = os }

-- ---- a failure

line-differs : failure_line skipped ≡ codes "\"/rows/3/code\": expected \"<1>\", found 2"
unfolding on_literals
line-differs = refl

-- nothing isn't null
line-absent : failure_line absent ≡ codes "\"/a\": expected null, found nothing"
unfolding on_literals
line-absent = refl

-- ---- TAP

tap-nothing : tap_of [] ≡ codes "TAP version 14\n1..0\n"
unfolding on_literals
tap-nothing = refl

tap-one_file : tap_of (of (codes "t.json") (passed ∷ failed ∷ []) ∷ [])
    ≡ codes "TAP version 14\n1..2\nok 1 - order \\# 1\nnot ok 2 - b\\\\c d\n"
    ++ codes "# \"/rows/3/code\": expected \"<1>\", found 2\n# two lines\n"
unfolding on_literals
tap-one_file = refl

-- numbers go on from file to file, and a test that failed names its file
tap-two_files : tap_of (of (codes "t.json") (passed ∷ []) ∷ of (codes "u.json") (failed ∷ []) ∷ [])
    ≡ codes "TAP version 14\n1..2\nok 1 - order \\# 1\nnot ok 2 - b\\\\c d\n# in \"u.json\"\n"
    ++ codes "# \"/rows/3/code\": expected \"<1>\", found 2\n# two lines\n"
unfolding on_literals
tap-two_files = refl

-- ---- XML

junit-nothing : junit_of [] ≡ codes "<?xml version=\"1.0\" encoding=\"UTF-8\"?>\n<testsuites>\n</testsuites>\n"
unfolding on_literals
junit-nothing = refl

junit-one_file : junit_of (of (codes "t&.json") (passed ∷ failed ∷ []) ∷ [])
    ≡ codes "<?xml version=\"1.0\" encoding=\"UTF-8\"?>\n<testsuites>\n"
    ++ (codes "  <testsuite name=\"t&amp;.json\" tests=\"2\" failures=\"1\">\n"
    ++ (codes "    <testcase classname=\"t&amp;.json\" name=\"order # 1\"/>\n"
    ++ (codes "    <testcase classname=\"t&amp;.json\" name=\"b\\c&#10;d\">\n"
    ++ (codes "      <failure message=\"&quot;/rows/3/code&quot;: expected &quot;&lt;1&gt;&quot;, found 2\">\n"
    ++ (codes "&quot;/rows/3/code&quot;: expected &quot;&lt;1&gt;&quot;, found 2\ntwo lines\n      </failure>\n    </testcase>\n"
    ++ codes "  </testsuite>\n</testsuites>\n")))))
unfolding on_literals
junit-one_file = refl

-- ---- characters

-- beyond ASCII a text stands as it is: U+00E9, U+20AC, U+1F600
xml-beyond_ascii : escaped Place.Xml (195 ∷ 169 ∷ 226 ∷ 130 ∷ 172 ∷ 240 ∷ 159 ∷ 152 ∷ 128 ∷ [])
    ≡ 195 ∷ 169 ∷ 226 ∷ 130 ∷ 172 ∷ 240 ∷ 159 ∷ 152 ∷ 128 ∷ []
unfolding on_literals
xml-beyond_ascii = refl

-- U+0000 and U+FFFF can't be written
xml-forbidden : escaped Place.Xml (0 ∷ 239 ∷ 191 ∷ 191 ∷ []) ≡ 239 ∷ 191 ∷ 189 ∷ 239 ∷ 191 ∷ 189 ∷ []
unfolding on_literals
xml-forbidden = refl

forbidden-31 : is_forbidden 31 ≡ true
forbidden-31 = refl

forbidden-space : is_forbidden 32 ≡ false
forbidden-space = refl

forbidden-65533 : is_forbidden 65533 ≡ false
forbidden-65533 = refl

forbidden-65534 : is_forbidden 65534 ≡ true
forbidden-65534 = refl

forbidden-65536 : is_forbidden 65536 ≡ false
forbidden-65536 = refl

control-delete : is_control 127 ≡ true
control-delete = refl

control-tilde : is_control 126 ≡ false
control-tilde = refl
