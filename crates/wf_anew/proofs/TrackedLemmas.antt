-- The row of a container outside of all loops doesn't depend on what the run is called, nor on its seed and moment: its tracked properties
-- ask for none of these.
use Rattle.std.proofs.Common.{◌≡◌, ℕ, Bool, true, false, ◌||◌, cond, List, [], ◌∷◌, ◌++◌, map, Option, Some, None, inl, inr, refl}
use Rattle.std.proofs.Common.{sym, ap, ◌∙◌, option_map, true≢false}
use Rattle.std.specs.List.{AllByRecursion, find}
use Rattle.wf_val.specs.Address.{address_text}
use Rattle.wf_val.specs.Get.{value_of}
use Rattle.wf_val.specs.ValueTree.{ValueTree, object, no_members}
use Rattle.wf_val.specs.declared.function.Fun.{Fun}
use Rattle.wf_template.specs.DataTree.{DataMember, data_members}
use Rattle.wf_layers.specs.Address.{Address, Table}
use Rattle.wf_layers.proofs.Basics.{two, unless, when}
use Rattle.wf_look.specs.Told.{Told}
use Rattle.wf_eval_expr.specs.Uses.{Agree, AgreeAt, Use, asks, asks_moment, asks_words, names}
use Rattle.wf_eval.specs.Uses.{members_uses}
use Rattle.wf_uses.specs.UsesTree.{UsesTree, uses_tree}
use Rattle.wf_def.specs.ActionTree.{ActionTree, action, action_kind, action_name, action_number}
use Rattle.wf_def.specs.AllActions.{all_actions, has_number, numbered}
use Rattle.wf_def.specs.DefTree.{DefTree}
use Rattle.wf_reading.proofs.RunAfterLemmas.{append-first}
use Rattle.wf_refs.specs.Sites.{uses_at_tracked, uses_of}
use Rattle.wf_refs.specs.declared.site.Site.{Site}
use Rattle.wf_standing.specs.Standing.{StandingTree, number_at, pointer_at, standings_of}
use Rattle.wf_standing.specs.Whole.{whole_of}
use Rattle.wf_breaks.specs.Rules.{action_breaks, breaks_at, breaks_if, breaks_itself, is_any}
use Rattle.wf_breaks.specs.declared.rule.Rule.{Rule}
use Rattle.wf_meant_laws.specs.Broken.{offences, told}
use Rattle.wf_record.specs.Record.{Row}
use Rattle.wf_trigger.specs.Starts.{StartTree}
use Rattle.wf_opening.specs.Decisions.{DecisionTree}
use Rattle.wf_opening.specs.Verdicts.{VerdictTree}
use Rattle.wf_done.specs.Done.{DoneTree}
use Rattle.wf_done.specs.Tracked.{tracked_from, tracked_value, with_own}
use Rattle.wf_environment.specs.Environment.{Environment, Facts, facts_of}
use Rattle.wf_loops.specs.Loops.{loops_of}
use Rattle.wf_turns.specs.Containers.{closed}
use Rattle.wf_turns.specs.Look.{Item, instance, items_at, items_from, name_of, told_by, told_ending, told_within}
use Rattle.wf_turns.specs.Points.{Point, graph_of, point_of}
use Rattle.wf_turns.specs.Rows.{row_of, view_of}
use Rattle.wf_turns.specs.Source.{close_of, source, tracked_of}
use Rattle.wf_anew.specs.Known.{AllQuiet, IsQuiet}
use Rattle.wf_anew.proofs.ToldLemmas.{SameStart}

-- ---- of the rule on tracked properties

none_first : (b c : Bool) → (b || c) ≡ false → b ≡ false
none_first true c is = is
none_first false c is = refl

none_second : (b c : Bool) → (b || c) ≡ false → c ≡ false
none_second true c is = absurd (true≢false is)
none_second false c is = is

none_told : {X : Type 0} (broken : X → Bool) (pointer : X → List ℕ) (xs : List X) → told broken pointer xs ≡ []
    → AllByRecursion (λ x. broken x ≡ false) xs
none_told broken pointer [] none = tt
none_told broken pointer (x ∷ xs) none = (
  here (broken x) (append-first (cond (broken x) (pointer x ∷ []) []) (told broken pointer xs) none),
  none_told broken pointer xs (second (broken x) none),
)
  where
    here : (b : Bool) → cond b (pointer x ∷ []) [] ≡ [] → b ≡ false
    here true is = absurd (cc)
    here false is = refl

    second : (b : Bool) → cond b (pointer x ∷ []) [] ++ told broken pointer xs ≡ [] → told broken pointer xs ≡ []
    second true is = absurd (cc)
    second false is = is

-- ---- what a use doesn't ask for

words_parts : (u : Use) (us : List Use) → (uses_tree [] (u ∷ us)).words ≡ false
    → ((uses_tree [] (u ∷ [])).words ≡ false) × ((uses_tree [] us).words ≡ false)
words_parts (names f k) us is = (refl, is)
words_parts (asks f) us is = (refl, is)
words_parts asks_moment us is = (refl, is)
words_parts asks_words us is = absurd (true≢false is)

moment_parts : (u : Use) (us : List Use) → (uses_tree [] (u ∷ us)).moment ≡ false
    → ((uses_tree [] (u ∷ [])).moment ≡ false) × ((uses_tree [] us).moment ≡ false)
moment_parts (names f k) us is = (refl, is)
moment_parts (asks f) us is = (refl, is)
moment_parts asks_moment us is = absurd (true≢false is)
moment_parts asks_words us is = (refl, is)

run_parts : (u : Use) (us : List Use) → (uses_tree [] (u ∷ us)).run ≡ false
    → ((uses_tree [] (u ∷ [])).run ≡ false) × ((uses_tree [] us).run ≡ false)
run_parts (names f k) us is = (refl, is)
run_parts (asks Fun.Workflow) us is = absurd (true≢false is)
run_parts (asks f) us is = (refl, is)
run_parts asks_moment us is = (refl, is)
run_parts asks_words us is = (refl, is)

all_quiet : (us : List Use) → (uses_tree [] us).words ≡ false → (uses_tree [] us).moment ≡ false → (uses_tree [] us).run ≡ false
    → AllQuiet us
all_quiet [] words moment run = tt
all_quiet (u ∷ us) words moment run =
    let w = words_parts u us words in
    let m = moment_parts u us moment in
    let r = run_parts u us run in
    (record { words = w.0; moment = m.0; run = r.0 }, all_quiet us w.1 m.1 r.1)

module _ (d : DefTree) (holds : offences d Rule.Tracked ≡ []) (actions : map (λ s. s.action) (standings_of d.top) ≡ all_actions d.top) where
  -- at the tracked properties of each action
  holds_all : AllByRecursion (λ s. action_breaks (whole_of d) Rule.Tracked s ≡ false) (standings_of d.top)
  holds_all =
      none_told (action_breaks (whole_of d) Rule.Tracked) pointer_at (standings_of d.top)
      (append-first (told (action_breaks (whole_of d) Rule.Tracked) pointer_at (standings_of d.top)) _ holds)

  last_of : (b c e f g : Bool) → (b || (c || (e || (f || g)))) ≡ false → g ≡ false
  last_of b c e f g is = none_second f g (none_second e (f || g) (none_second c (e || (f || g)) (none_second b (c || (e || (f || g))) is)))

  at_tracked : (s : StandingTree) → action_breaks (whole_of d) Rule.Tracked s ≡ false
      → breaks_at (whole_of d) Rule.Tracked (Site.Tracked (number_at s)) (Some s) ≡ false
  at_tracked s is =
      last_of (breaks_itself Rule.Tracked s) (breaks_at (whole_of d) Rule.Tracked (Site.Inputs (number_at s)) (Some s))
      (breaks_at (whole_of d) Rule.Tracked (Site.Items (number_at s)) (Some s))
      (breaks_at (whole_of d) Rule.Tracked (Site.Test (number_at s)) (Some s))
      (breaks_at (whole_of d) Rule.Tracked (Site.Tracked (number_at s)) (Some s)) is

  record Stands (a : ActionTree) : Type 0 where
    standing : StandingTree
    is : standing.action ≡ a
    fine : action_breaks (whole_of d) Rule.Tracked standing ≡ false

  stands : (n : ℕ) (ss : List StandingTree) (a : ActionTree) → AllByRecursion (λ s. action_breaks (whole_of d) Rule.Tracked s ≡ false) ss
      → find (has_number n) (map (λ (s : StandingTree). s.action) ss) ≡ Some a → Stands a
  stands n [] a all is = absurd (cc)
  stands n (s ∷ ss) a all is = elim (two (has_number n s.action)) [
    | inl t ↦
        let same : Some s.action ≡ Some a =
        sym (when (has_number n s.action) (Some s.action) (find (has_number n) (map (λ (q : StandingTree). q.action) ss)) t) ∙ is in
        let it : s.action ≡ a = cc in
        record { standing = s; is = it; fine = all.0 }
    | inr f ↦
        stands n ss a all.1
        (sym (unless (has_number n s.action) (Some s.action) (find (has_number n) (map (λ (q : StandingTree). q.action) ss)) f) ∙ is)
  ]

  tracked_there : (a : ActionTree) → uses_at_tracked a ≡ uses_tree [] (members_uses (data_members (tracked_of a)))
  tracked_there (action name number pointer after kind tracked) = refl

  -- an action that a number finds
  pub tracked_quiet : (n : ℕ) (a : ActionTree) → numbered n d.top ≡ Some a → n ≡ action_number a
      → AllQuiet (members_uses (data_members (tracked_of a)))
  tracked_quiet n a is number =
      let found = stands n (standings_of d.top) a holds_all (ap (find (has_number n)) actions ∙ is) in
      let us = members_uses (data_members (tracked_of a)) in
      let there : uses_of d (Site.Tracked (number_at found.standing)) ≡ Some (uses_tree [] us) =
      ap (λ (m : ℕ). option_map uses_at_tracked (numbered m d.top)) (ap action_number found.is ∙ sym number)
      ∙ (ap (option_map uses_at_tracked) is ∙ ap (λ (u : UsesTree). Some u) (tracked_there a)) in
      let fine = sym (ap (breaks_if (whole_of d) Rule.Tracked (Site.Tracked (number_at found.standing)) (Some found.standing)) there)
      ∙ at_tracked found.standing found.fine in
      let u : UsesTree = uses_tree [] us in
      let rest = none_second (is_any u.reads) (u.words || (u.moment || u.run)) fine in
      let later = none_second u.words (u.moment || u.run) rest in
      all_quiet us (none_first u.words (u.moment || u.run) rest) (none_first u.moment u.run later) (none_second u.moment u.run later)

-- ---- two looks that tell the same but of the run

module _ (d : DefTree) (s t : StartTree) (start : SameStart s t) (f g : Facts) (place : List ℕ) (p : Point) (held : List Item)
    (own : Option ValueTree) (known : Table Row) where
  abbrev one : Told
  one = told_by d s f place p held own known

  abbrev other : Told
  other = told_by d t g place p held own known

  agree_one : (u : Use) → IsQuiet u → Agree one other u
  agree_one (names Fun.Actions k) quiet = refl
  agree_one (names Fun.Outputs k) quiet = refl
  agree_one (names Fun.Body k) quiet = refl
  agree_one (names Fun.Result k) quiet = refl
  agree_one (names Fun.Items k) quiet = refl
  agree_one (names Fun.IterationIndexes k) quiet = refl
  agree_one (names Fun.Parameters k) quiet = ap (value_of k) start.parameters
  agree_one (names Fun.Variables k) quiet = refl
  agree_one (names f' k) quiet = tt
  agree_one (asks Fun.Action) quiet = refl
  agree_one (asks Fun.Item) quiet = refl
  agree_one (asks Fun.Trigger) quiet = start.trigger
  agree_one (asks Fun.TriggerOutputs) quiet = start.trigger
  agree_one (asks Fun.TriggerBody) quiet = start.trigger
  agree_one (asks Fun.Workflow) quiet = absurd (true≢false quiet.run)
  agree_one (asks f') quiet = tt
  agree_one asks_moment quiet = absurd (true≢false quiet.moment)
  agree_one asks_words quiet = absurd (true≢false quiet.words)

  pub agree_quiet : (us : List Use) → AllQuiet us → AgreeAt one other us
  agree_quiet [] quiet = tt
  agree_quiet (u ∷ us) quiet = (agree_one u quiet.0, agree_quiet us quiet.1)

-- ---- the row of a container

module _ (d : DefTree) (e e' : Environment) (start : SameStart e.start e'.start)
    (tracks : (l m : Told) (ms : List DataMember) → AgreeAt l m (members_uses (data_members ms)) → (n : ℕ)
    → tracked_from l ms n ≡ tracked_from m ms n)
    (quiet : (n : ℕ) (a : ActionTree) → numbered n d.top ≡ Some a → AllQuiet (members_uses (data_members (tracked_of a)))) where
  no_items : (x : Address) (known : Table Row) (f : Environment) → loops_of (graph_of d) x.name ≡ []
      → items_at d f (point_of d x) known ≡ []
  no_items x known f none = ap (λ (ls : List ℕ). items_from d f ls x.at [] [] known) none

  tracked_same : (x : Address) (a : ActionTree) → numbered x.name d.top ≡ Some a → loops_of (graph_of d) x.name ≡ []
      → (view : ValueTree) (known : Table Row)
      → tracked_value (told_ending d e x view known) (tracked_of a) ≡ tracked_value (told_ending d e' x view known) (tracked_of a)
  tracked_same x a is none view known =
      ap (λ (held : List Item). tracked_value (with_own view (told_within d e x held known)) (tracked_of a)) (no_items x known e none)
      ∙ (tracks (with_own view (told_within d e x [] known)) (with_own view (told_within d e' x [] known)) (tracked_of a)
      (agree_quiet d e.start e'.start start (facts_of e (name_of d x.name)) (facts_of e' (name_of d x.name)) (address_text (instance d x))
      (point_of d x) [] (Some view) known (members_uses (data_members (tracked_of a))) (quiet x.name a is)) 0
      ∙ sym (ap (λ (held : List Item). tracked_value (with_own view (told_within d e' x held known)) (tracked_of a))
      (no_items x known e' none)))

  closed_as : (x : Address) (found : Option ActionTree) → numbered x.name d.top ≡ found → loops_of (graph_of d) x.name ≡ []
      → (decision : DecisionTree) (n : ℕ) (v : Option VerdictTree) (known : Table Row)
      → close_of d e found x decision n v known ≡ close_of d e' found x decision n v known
  closed_as x None is none decision n v known = refl
  closed_as x (Some a) is none decision n v known =
      let done : DoneTree = closed (action_kind a) x.at decision n v known in
      ap (λ (tracked : ValueTree). row_of done tracked [])
      (tracked_same x a is none (view_of (action_name a) (row_of done (object no_members) [])) known)

  -- THE LAW
  pub closed_alike : (x : Address) → loops_of (graph_of d) x.name ≡ [] → (decision : DecisionTree) (n : ℕ) (v : Option VerdictTree)
      (known : Table Row) → (source d e).close x decision n v known ≡ (source d e').close x decision n v known
  closed_alike x none decision n v known = closed_as x (numbered x.name d.top) refl none decision n v known
