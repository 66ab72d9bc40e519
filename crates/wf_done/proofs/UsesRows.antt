-- What worked actions ask their looks for.
use Rattle.std.proofs.Common.{◌≡◌, refl, ℕ, List, [], ◌∷◌, Some, None}
use Rattle.std.specs.Prelude.{codes}
use Rattle.wf_val.specs.ValueTree.{null}
use Rattle.wf_val.specs.declared.function.Fun.{Fun}
use Rattle.wf_retry.specs.declared.policy.Policy.{Policy}
use Rattle.wf_template.specs.DataTree as inputs
use Rattle.wf_template.specs.ExprTree.{ExprTree}
use Rattle.wf_template.specs.TemplateTree.{whole}
use Rattle.wf_variables.proofs.WorkedLook.{one_member}
use Rattle.wf_variables.proofs.WorkedExpressions.{word, of}
use Rattle.wf_variables.specs.Uses.{Use, names, asks, asks_moment}
use Rattle.wf_def.specs.ActionTree.{compose, connector, wait, response, terminate, select, query, join, parse_json}
use Rattle.wf_def.specs.ActionTree.{initialize, set_to, increment, decrement, append_array, append_string, scope, no_actions}
use Rattle.wf_def.specs.declared.sort.Sort.{Sort}
use Rattle.wf_variables.proofs.RowParts.{that, tree_items, item}
use Rattle.wf_done.specs.Uses.{beneath, kind_uses}

-- a tree that names an action
abbrev naming : List ℕ → ExprTree
naming k = of (codes "body") (word k ∷ [])

abbrev a : inputs.DataTree
a = that (naming (codes "A"))

abbrev asks_a : Use
asks_a = names Fun.Body (codes "A")

abbrev b : inputs.DataTree
b = that (naming (codes "B"))

abbrev asks_b : Use
asks_b = names Fun.Body (codes "B")

abbrev v : List ℕ
v = codes "v"

abbrev asks_v : Use
asks_v = names Fun.Variables (codes "v")

uses-compose : kind_uses (compose a) ≡ asks_a ∷ []
uses-compose = refl

uses-connector : kind_uses (connector a Policy.Standard) ≡ asks_a ∷ []
uses-connector = refl

uses-wait : kind_uses (wait a) ≡ asks_a ∷ []
uses-wait = refl

uses-response : kind_uses (response a) ≡ asks_a ∷ []
uses-response = refl

uses-terminate : kind_uses (terminate a) ≡ asks_a ∷ []
uses-terminate = refl

-- beneath the items of its own list a Select doesn't ask for an item
uses-select : kind_uses (select (that item) (tree_items (that item ∷ b ∷ []))) ≡ asks Fun.Item ∷ asks_b ∷ []
uses-select = refl

uses-query : kind_uses (query a (whole (of (codes "equals") (item ∷ naming (codes "B") ∷ [])))) ≡ asks_a ∷ asks_b ∷ []
uses-query = refl

uses-join : kind_uses (join a (that item)) ≡ asks_a ∷ asks Fun.Item ∷ []
uses-join = refl

uses-parse : kind_uses (parse_json a (Some (one_member (codes "type") null))) ≡ asks_a ∷ []
uses-parse = refl

uses-initialize :
    kind_uses (initialize (record { name = v; sort = Sort.Int; value = Some a } ∷ record { name = codes "w"; sort = Sort.Int; value = None }
    ∷ record { name = codes "x"; sort = Sort.Int; value = Some b } ∷ []))
    ≡ asks_a ∷ asks_b ∷ []
uses-initialize = refl

uses-set : kind_uses (set_to v a) ≡ asks_a ∷ asks_v ∷ []
uses-set = refl

uses-increment : kind_uses (increment v (Some a)) ≡ asks_a ∷ asks_v ∷ []
uses-increment = refl

uses-decrement : kind_uses (decrement v None) ≡ asks_v ∷ []
uses-decrement = refl

uses-append_array : kind_uses (append_array v a) ≡ asks_a ∷ asks_v ∷ []
uses-append_array = refl

uses-append_string : kind_uses (append_string v a) ≡ asks_a ∷ asks_v ∷ []
uses-append_string = refl

uses-scope : kind_uses (scope no_actions) ≡ []
uses-scope = refl

-- the item alone isn't asked for, wherever it stands
beneath-all :
    beneath (asks Fun.Item ∷ asks_a ∷ asks Fun.Item ∷ asks Fun.Action ∷ asks_moment ∷ [])
    ≡ asks_a ∷ asks Fun.Action ∷ asks_moment ∷ []
beneath-all = refl
