-- Two looks that tell the same where an action asks have it do the same.
use Rattle.std.proofs.Common.{◌≡◌, ℕ, List, [], ◌∷◌, ◌++◌, Option, Some, None, map, refl, ap, ◌∙◌}
use Rattle.wf_val.specs.Arguments.{given}
use Rattle.wf_val.specs.ValueTree.{ValueTree, null}
use Rattle.wf_val.specs.declared.function.Fun.{Fun}
use Rattle.wf_template.specs.DataTree as inputs
use Rattle.wf_template.specs.DataTree.{DataTree, DataMember}
use Rattle.wf_template.specs.TemplateTree.{TemplateTree}
use Rattle.wf_def.specs.ActionTree.{InitialTree, KindTree, compose, connector, wait, response, terminate, select, query, join, parse_json}
use Rattle.wf_def.specs.ActionTree.{initialize, set_to, increment, decrement, append_array, append_string}
use Rattle.wf_def.specs.declared.sort.Sort.{Sort}
use Rattle.wf_variables.specs.Looked.{or_no_value}
use Rattle.wf_variables.specs.Outcomes.{Run, turned}
use Rattle.wf_variables.specs.Told.{Told, over}
use Rattle.wf_variables.specs.Uses.{Use, names, asks, asks_moment, asks_words, Agree, AgreeAt}
use Rattle.wf_variables.proofs.Local.{agree-front, agree-rest}
use Rattle.wf_variables.specs.TemplateValue.{template_value}
use Rattle.wf_variables.specs.TreeValue.{members_after, member_runs, tree_value}
use Rattle.wf_variables.specs.EvalUses.{members_uses, template_uses, tree_uses}
use Rattle.wf_variables.specs.Lists.{items_from, joined, over_each, queried, query_truth, selected}
use Rattle.wf_variables.specs.Made.{Making, fitting, followed, goes_on}
use Rattle.wf_variables.specs.Parsed.{made_of_content}
use Rattle.wf_variables.specs.Simple.{run_status_of, terminated}
use Rattle.wf_variables.specs.Initials.{ItemsTree, initial_by, initial_value, initials_after, made_of_items, pushed}
use Rattle.wf_variables.specs.Sorts.{of_sort}
use Rattle.wf_variables.specs.Writing as writing
use Rattle.wf_variables.specs.Writing.{Change, amount, changed}
use Rattle.wf_done.specs.Leaf.{acted, begun_from, called_with, done_of, made_by}
use Rattle.wf_done.specs.Tracked.{tracked_from, tracked_of}
use Rattle.wf_done.specs.Uses.{beneath, if_there, initials_uses, kind_uses}

-- ---- an item laid over both

names_over : (t : ValueTree) (l m : Told) (f : Fun) (k : List ℕ) → Agree l m (names f k) → Agree (over t l) (over t m) (names f k)
names_over t l m Fun.Actions k a = a
names_over t l m Fun.Outputs k a = a
names_over t l m Fun.Body k a = a
names_over t l m Fun.Result k a = a
names_over t l m Fun.Items k a = a
names_over t l m Fun.IterationIndexes k a = a
names_over t l m Fun.Parameters k a = a
names_over t l m Fun.Variables k a = a
names_over t l m f k a = a

abbrev Over : ValueTree → Told → Told → List Use → Type 0
Over t l m us = AgreeAt l m (beneath us) → AgreeAt (over t l) (over t m) us

asks_over : (t : ValueTree) (l m : Told) (f : Fun) (us : List Use) → Over t l m us → Over t l m (asks f ∷ us)
asks_over t l m Fun.Item us rest a = (refl, rest a)
asks_over t l m Fun.Action us rest a = (a.0, rest a.1)
asks_over t l m Fun.Trigger us rest a = (a.0, rest a.1)
asks_over t l m Fun.TriggerOutputs us rest a = (a.0, rest a.1)
asks_over t l m Fun.TriggerBody us rest a = (a.0, rest a.1)
asks_over t l m Fun.Workflow us rest a = (a.0, rest a.1)
asks_over t l m f us rest a = (a.0, rest a.1)

over_agrees : (t : ValueTree) (l m : Told) (us : List Use) → Over t l m us
over_agrees t l m [] a = tt
over_agrees t l m (names f k ∷ us) a = (names_over t l m f k a.0, over_agrees t l m us a.1)
over_agrees t l m (asks f ∷ us) a = asks_over t l m f us (over_agrees t l m us) a
over_agrees t l m (asks_moment ∷ us) a = (a.0, over_agrees t l m us a.1)
over_agrees t l m (asks_words ∷ us) a = (a.0, over_agrees t l m us a.1)

-- what is promised of templates and trees
abbrev TemplatesAreLocal : Type 0
TemplatesAreLocal = (l m : Told) (t : TemplateTree) → AgreeAt l m (template_uses t) → template_value l t ≡ template_value m t

abbrev TreesAreLocal : Type 0
TreesAreLocal = (l m : Told) (t : DataTree) → AgreeAt l m (tree_uses t) → tree_value l t ≡ tree_value m t

module _ (template : TemplatesAreLocal) (tree : TreesAreLocal) where
  -- ---- over a list

  select-local : (l m : Told) (from item : DataTree) → AgreeAt l m (tree_uses from ++ beneath (tree_uses item)) →
      made_by l (select from item) ≡ made_by m (select from item)
  select-local l m from item a =
      let one : tree_value l from ≡ tree_value m from = tree l m from (agree-front l m (tree_uses from) (beneath (tree_uses item)) a) in
      let inner = agree-rest l m (tree_uses from) (beneath (tree_uses item)) a in
      let each : (λ (t : ValueTree). tree_value (over t l) item) ≡ (λ (t : ValueTree). tree_value (over t m) item) =
      λ i t. tree (over t l) (over t m) item (over_agrees t l m (tree_uses item) inner) i in
      ap (λ r n. goes_on (r n) (λ v k. goes_on (items_from v, k) (λ ts j. selected (over_each l item) v ts j))) one
      ∙ ap (λ g n. goes_on (tree_value m from n) (λ v k. goes_on (items_from v, k)
      (λ ts j. selected (λ us. map g us) v ts j))) each

  abbrev filtering : Told → TemplateTree → ValueTree → Run
  filtering l filter t = template_value (over t l) filter

  query-local : (l m : Told) (from : DataTree) (filter : TemplateTree) → AgreeAt l m (tree_uses from ++ beneath (template_uses filter)) →
      made_by l (query from filter) ≡ made_by m (query from filter)
  query-local l m from filter a =
      let one : tree_value l from ≡ tree_value m from =
      tree l m from (agree-front l m (tree_uses from) (beneath (template_uses filter)) a) in
      let inner = agree-rest l m (tree_uses from) (beneath (template_uses filter)) a in
      let each : filtering l filter ≡ filtering m filter =
      λ i t. template (over t l) (over t m) filter (over_agrees t l m (template_uses filter) inner) i in
      ap (λ r n. goes_on (r n) (λ v k. goes_on (items_from v, k)
      (λ ts j. queried (λ t p. followed (filtering l filter t p) query_truth) v ts j))) one
      ∙ ap (λ g n. goes_on (tree_value m from n) (λ v k. goes_on (items_from v, k)
      (λ ts j. queried (λ t p. followed (g t p) query_truth) v ts j))) each

  join-local : (l m : Told) (from with' : DataTree) → AgreeAt l m (tree_uses from ++ tree_uses with') →
      made_by l (join from with') ≡ made_by m (join from with')
  join-local l m from with' a =
      let one : tree_value l from ≡ tree_value m from = tree l m from (agree-front l m (tree_uses from) (tree_uses with') a) in
      let other : tree_value l with' ≡ tree_value m with' = tree l m with' (agree-rest l m (tree_uses from) (tree_uses with') a) in
      ap (λ r n. goes_on (r n) (λ v k. goes_on (items_from v, k) (λ ts j. followed (tree_value l with' j) (joined v)))) one
      ∙ ap (λ r n. goes_on (tree_value m from n) (λ v k. goes_on (items_from v, k) (λ ts j. followed (r j) (joined v)))) other

  -- ---- variables

  initial-local : (l m : Told) (s : Sort) (t : Option DataTree) → AgreeAt l m (if_there t) → initial_by l s t ≡ initial_by m s t
  initial-local l m s None a = refl
  initial-local l m s (Some t) a = ap (λ r n. turned (of_sort s) (r n)) (tree l m t a)

  initials-local : (l m : Told) (is : List InitialTree) → AgreeAt l m (initials_uses is) → (done : ItemsTree) →
      initials_after l is done ≡ initials_after m is done
  initials-local l m [] a done = refl
  initials-local l m (i ∷ is) a done =
      let one : initial_value l i ≡ initial_value m i =
      initial-local l m i.sort i.value (agree-front l m (if_there i.value) (initials_uses is) a) in
      let rest : initials_after l is ≡ initials_after m is =
      λ j d. initials-local l m is (agree-rest l m (if_there i.value) (initials_uses is) a) d j in
      ap (λ r n. goes_on (r n) (λ v k. initials_after l is (pushed i v done) k)) one
      ∙ ap (λ g n. goes_on (initial_value m i n) (λ v k. g (pushed i v done) k)) rest

  amount-local : (l m : Told) (t : Option DataTree) → AgreeAt l m (if_there t) → amount l t ≡ amount m t
  amount-local l m None a = refl
  amount-local l m (Some t) a = tree l m t a

  abbrev changing : Told → Change → List ℕ → Run → Making
  changing l change k r n = changed l change k (r n)

  writing-local : (l m : Told) (change : Change) (k : List ℕ) (r s : Run) → r ≡ s → l.variable k ≡ m.variable k →
      changing l change k r ≡ changing m change k s
  writing-local l m change k r s e has =
      ap (λ q n. changed l change k (q n)) e
      ∙ ap (λ x n. followed (s n) (λ v. given (or_no_value k x) (λ u. change k u v))) has

  -- ---- all kinds

  made-local : (l m : Told) (kind : KindTree) → AgreeAt l m (kind_uses kind) → made_by l kind ≡ made_by m kind
  made-local l m (compose t) a = ap (λ r n. followed (r n) (λ v. fitting v v)) (tree l m t a)
  made-local l m (response t) a = ap (λ r n. followed (r n) (λ v. fitting v v)) (tree l m t a)
  made-local l m (wait t) a = ap (λ r n. followed (r n) (λ v. fitting v null)) (tree l m t a)
  made-local l m (terminate t) a = ap (λ r n. followed (r n) (λ v. terminated v (run_status_of v))) (tree l m t a)
  made-local l m (select from item) a = select-local l m from item a
  made-local l m (query from filter) a = query-local l m from filter a
  made-local l m (join from with') a = join-local l m from with' a
  made-local l m (parse_json t schema) a = ap (λ r n. followed (r n) made_of_content) (tree l m t a)
  made-local l m (initialize is) a =
      ap (λ r n. followed (r n) made_of_items) (initials-local l m is a (record { kept = []; given = [] }))
  made-local l m (set_to k t) a =
      writing-local l m writing.set_to k (tree_value l t) (tree_value m t)
      (tree l m t (agree-front l m (tree_uses t) (names Fun.Variables k ∷ []) a))
      (agree-rest l m (tree_uses t) (names Fun.Variables k ∷ []) a).0
  made-local l m (append_array k t) a =
      writing-local l m writing.with_item k (tree_value l t) (tree_value m t)
      (tree l m t (agree-front l m (tree_uses t) (names Fun.Variables k ∷ []) a))
      (agree-rest l m (tree_uses t) (names Fun.Variables k ∷ []) a).0
  made-local l m (append_string k t) a =
      writing-local l m writing.with_text k (tree_value l t) (tree_value m t)
      (tree l m t (agree-front l m (tree_uses t) (names Fun.Variables k ∷ []) a))
      (agree-rest l m (tree_uses t) (names Fun.Variables k ∷ []) a).0
  made-local l m (increment k t) a =
      writing-local l m writing.incremented k (amount l t) (amount m t)
      (amount-local l m t (agree-front l m (if_there t) (names Fun.Variables k ∷ []) a))
      (agree-rest l m (if_there t) (names Fun.Variables k ∷ []) a).0
  made-local l m (decrement k t) a =
      writing-local l m writing.decremented k (amount l t) (amount m t)
      (amount-local l m t (agree-front l m (if_there t) (names Fun.Variables k ∷ []) a))
      (agree-rest l m (if_there t) (names Fun.Variables k ∷ []) a).0
  made-local l m kind a = refl

  pub begun-local : (l m : Told) (kind : KindTree) → AgreeAt l m (kind_uses kind) → (n : ℕ) → begun_from l kind n ≡ begun_from m kind n
  begun-local l m (connector t policy) a n = ap (λ r. called_with policy (r n).0) (tree l m t a)
  begun-local l m kind a n = ap (λ r. acted (done_of kind (r n).0)) (made-local l m kind a)

  -- ---- tracked properties

  members-local : (l m : Told) (ms : inputs.DataMembers) → AgreeAt l m (members_uses ms) → member_runs l ms ≡ member_runs m ms
  members-local l m inputs.no_members a = refl
  members-local l m (inputs.member_then k t ms) a =
      ap (λ r. (k, r) ∷ member_runs l ms) (tree l m t (agree-front l m (tree_uses t) (members_uses ms) a))
      ∙ ap (λ rs. (k, tree_value m t) ∷ rs) (members-local l m ms (agree-rest l m (tree_uses t) (members_uses ms) a))

  pub tracked-local : (l m : Told) (ms : List DataMember) → AgreeAt l m (members_uses (inputs.data_members ms)) →
      (n : ℕ) → tracked_from l ms n ≡ tracked_from m ms n
  tracked-local l m ms a n = ap (λ rs. tracked_of (members_after rs [] n).0) (members-local l m (inputs.data_members ms) a)
