-- Values as the worked rows write them.
use Prim.Native.String.{String}
use Rattle.std.proofs.Common.{ℕ, ◌^◌, ◌-◌, List, true, false}
use Rattle.std.specs.Prelude.{pos, neg_ℤ, codes}
use Rattle.wf_val.specs.ValueTree.{ValueTree, Member, boolean, number, text, list, trees, object, members}

abbrev pub plus : ℕ → ValueTree
plus n = number (pos n)

abbrev pub minus : ℕ → ValueTree
minus n = number (neg_ℤ (pos n))

-- the greatest and the least number of 64 bits
abbrev pub greatest : ValueTree
greatest = plus (2 ^ 63 - 1)

abbrev pub least : ValueTree
least = minus (2 ^ 63)

abbrev pub yes : ValueTree
yes = boolean true

abbrev pub no : ValueTree
no = boolean false

-- a text of ASCII characters
abbrev pub word : String → ValueTree
word s = text (codes s)

abbrev pub items : List ValueTree → ValueTree
items ts = list (trees ts)

abbrev pub fields : List Member → ValueTree
fields ms = object (members ms)
