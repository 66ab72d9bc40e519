-- What the rules ask of worked actions: of each kind of action, and by the containers round them.
use Prim.Native.String.{String}
use Rattle.std.proofs.Common.{◌≡◌, ℕ, List, [], ◌∷◌, Bool, true, false, Some, None, map, refl}
use Rattle.std.specs.Prelude.{codes}
use Rattle.wf_retry.specs.declared.policy.Policy.{Policy}
use Rattle.wf_template.specs.TemplateTree.{plain}
use Rattle.wf_template.specs.DataTree.{null}
use Rattle.wf_template.specs.CondTree.{holds}
use Rattle.wf_def.specs.ActionTree.{ActionTree, action, KindTree, compose, connector, wait, response, terminate, select, query, join}
use Rattle.wf_def.specs.ActionTree.{parse_json, initialize, set_to, increment, decrement, append_array, append_string, scope, branch}
use Rattle.wf_def.specs.ActionTree.{switch, switch_else, foreach, until, no_actions, no_cases}
use Rattle.wf_def.specs.declared.sort.Sort.{Sort}
use Rattle.wf_use_table.specs.Site.{Site}
use Rattle.wf_standing.specs.Inside.{has_item, is_in_loop, is_outside, loops_left}
use Rattle.wf_standing.specs.Kinds.{ends_or_responds, is_container, is_initialize, is_loop, is_of, suits}
use Rattle.wf_standing.specs.Standing.{StandingTree}
use Rattle.wf_standing.specs.Whole.{InitialisedTree, is_again}
use Rattle.wf_standing.specs.declared.kinds.Loop.{Loop}

-- ---- of each kind

abbrev services : List KindTree
services = compose null ∷ connector null Policy.Never ∷ wait null ∷ []

abbrev endings : List KindTree
endings = response null ∷ terminate null ∷ []

abbrev on_data : List KindTree
on_data = select null null ∷ query null (plain []) ∷ join null null ∷ parse_json null None ∷ []

abbrev on_variables : List KindTree
on_variables =
    initialize [] ∷ set_to [] null ∷ increment [] None ∷ decrement [] None ∷ append_array [] null ∷ append_string [] null ∷ []

abbrev choices : List KindTree
choices =
    scope no_actions ∷ branch (holds (plain [])) no_actions no_actions ∷ switch (plain []) no_cases
    ∷ switch_else (plain []) no_cases no_actions ∷ []

abbrev loops : List KindTree
loops = foreach null 20 no_actions ∷ until (holds (plain [])) 60 false no_actions ∷ []

abbrev of_groups : (KindTree → Bool) → List (List Bool)
of_groups f = map (map f) (services ∷ endings ∷ on_data ∷ on_variables ∷ choices ∷ loops ∷ [])

abbrev no3 : List Bool
no3 = false ∷ false ∷ false ∷ []

abbrev no4 : List Bool
no4 = false ∷ no3

abbrev yes4 : List Bool
yes4 = true ∷ true ∷ true ∷ true ∷ []

containers : of_groups is_container
    ≡ no3 ∷ (false ∷ false ∷ []) ∷ no4 ∷ (false ∷ false ∷ no4) ∷ yes4 ∷ (true ∷ true ∷ []) ∷ []
containers = refl

looping : of_groups is_loop ≡ no3 ∷ (false ∷ false ∷ []) ∷ no4 ∷ (false ∷ false ∷ no4) ∷ no4 ∷ (true ∷ true ∷ []) ∷ []
looping = refl

each_loop : map (is_of Loop.Foreach) loops ∷ map (is_of Loop.Until) loops ∷ []
    ≡ (true ∷ false ∷ []) ∷ (false ∷ true ∷ []) ∷ []
each_loop = refl

ending : of_groups ends_or_responds
    ≡ no3 ∷ (true ∷ true ∷ []) ∷ no4 ∷ (false ∷ false ∷ no4) ∷ no4 ∷ (false ∷ false ∷ []) ∷ []
ending = refl

initialising : of_groups is_initialize
    ≡ no3 ∷ (false ∷ false ∷ []) ∷ no4 ∷ (true ∷ false ∷ no4) ∷ no4 ∷ (false ∷ false ∷ []) ∷ []
initialising = refl

-- each kind that names a variable, by the type of that
abbrev by_type : KindTree → List Bool
by_type kind = map (suits kind) (Sort.Bool ∷ Sort.Int ∷ Sort.Text ∷ Sort.List ∷ Sort.Obj ∷ [])

abbrev any : List Bool
any = true ∷ yes4

suiting : map by_type on_variables
    ≡ any ∷ any
    ∷ (false ∷ true ∷ no3)
    ∷ (false ∷ true ∷ no3)
    ∷ (false ∷ false ∷ false ∷ true ∷ false ∷ [])
    ∷ (false ∷ false ∷ true ∷ false ∷ false ∷ []) ∷ []
suiting = refl

-- ---- by the containers round an action

abbrev named : String → ℕ → KindTree → ActionTree
named name number kind = action (codes name) number (codes name) [] kind []

abbrev in_scope : ActionTree
in_scope = named "S" 1 (scope no_actions)

abbrev in_foreach : ActionTree
in_foreach = named "L" 2 (foreach null 20 no_actions)

abbrev in_until : ActionTree
in_until = named "U" 3 (until (holds (plain [])) 60 false no_actions)

abbrev leaf : ActionTree
leaf = named "A" 0 (compose null)

abbrev within : List ActionTree → StandingTree
within round = record { action = leaf; round = round }

-- a loop at any depth
in_loops : map (λ round. is_in_loop (within round)) (
    [] ∷ (in_scope ∷ []) ∷ (in_foreach ∷ []) ∷ (in_until ∷ []) ∷ (in_scope ∷ in_foreach ∷ []) ∷ (in_until ∷ in_scope ∷ [])
    ∷ (in_scope ∷ in_until ∷ in_scope ∷ []) ∷ [])
    ≡ false ∷ false ∷ true ∷ true ∷ true ∷ true ∷ true ∷ []
in_loops = refl

-- a loop isn't in itself
not_in_itself : is_in_loop (record { action = in_foreach; round = [] }) ≡ false
not_in_itself = refl

-- `item` stands inside a Foreach, at any of an action's places, and at what is asked of each item
abbrev sites : List Site
sites = Site.Inputs 0 ∷ Site.Items 0 ∷ Site.Test 0 ∷ Site.Tracked 0 ∷ []

abbrev item_by_site : List ActionTree → List Bool
item_by_site round = map (λ site. has_item site (Some (within round))) sites

items : map item_by_site ([] ∷ (in_until ∷ []) ∷ (in_foreach ∷ []) ∷ (in_foreach ∷ in_until ∷ []) ∷ [])
    ≡ (false ∷ true ∷ false ∷ false ∷ []) ∷ (false ∷ true ∷ false ∷ false ∷ []) ∷ yes4 ∷ yes4 ∷ []
items = refl

item_of_an_output : has_item (Site.Outputs 0) None ≡ false
item_of_an_output = refl

-- of its own places a loop is round the expression of an Until alone
own_until : map (λ site. is_outside Loop.Until site (Some (record { action = in_until; round = [] })) (codes "U")) sites
    ≡ true ∷ true ∷ false ∷ true ∷ []
own_until = refl

own_foreach : map (λ site. is_outside Loop.Foreach site (Some (record { action = in_foreach; round = [] })) (codes "L"))
    (Site.Inputs 0 ∷ Site.Items 0 ∷ Site.Tracked 0 ∷ []) ≡ true ∷ true ∷ true ∷ []
own_foreach = refl

-- what is left: of the loops round what is named those that aren't round the site
abbrev left_at : Site → ℕ
left_at site = loops_left site (Some (record { action = in_until; round = in_scope ∷ [] })) (within (in_scope ∷ in_until ∷ in_foreach ∷ []))

left : map left_at sites ≡ 2 ∷ 2 ∷ 1 ∷ 2 ∷ []
left = refl

left_by_an_output : loops_left (Site.Outputs 0) None (within (in_foreach ∷ in_scope ∷ in_until ∷ [])) ≡ 2
left_by_an_output = refl

left_from_inside : loops_left (Site.Inputs 0) (Some (within (in_foreach ∷ []))) (within (in_foreach ∷ in_until ∷ [])) ≡ 1
left_from_inside = refl

-- ---- which of several initialisations of one variable do so once more

abbrev initialised : String → ℕ → InitialisedTree
initialised pointer number = record {
  standing = record { action = action (codes "V") number (codes pointer) [] (initialize []) []; round = [] };
  sort = Sort.Int;
}

abbrev again : List InitialisedTree → List Bool
again is = map (λ i. is_again i.standing is) is

again_once : again (initialised "/v" 0 ∷ []) ≡ false ∷ []
again_once = refl

again_twice : again (initialised "/v" 0 ∷ initialised "/w" 1 ∷ []) ≡ false ∷ true ∷ []
again_twice = refl

again_thrice : again (initialised "/w" 2 ∷ initialised "/u" 0 ∷ initialised "/v" 1 ∷ []) ≡ true ∷ false ∷ true ∷ []
again_thrice = refl

-- twice by the first of them
again_itself : again (initialised "/v" 0 ∷ initialised "/v" 0 ∷ initialised "/w" 1 ∷ []) ≡ true ∷ true ∷ true ∷ []
again_itself = refl
