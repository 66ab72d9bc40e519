-- One example: a leaf makes three attempts, beside one that makes none. The first attempt alone has an answer; then all have.
use Rattle.std.proofs.Common.{◌≡◌, ℕ, zero, suc, Bool, true, false, cond, List, [], ◌∷◌, ◌++◌, Some, None, refl, sym, ap, ◌∙◌, subst, arith, nat_eq, nat_lt, ltb-true, true≢false}
use Rattle.std.proofs.lemmas.Bool.{lt-ltb}
use Rattle.std.proofs.lemmas.Option.{none-some}
use Rattle.wf_layers.specs.Definition.{Succeeded, Leaf, Graph, done, add}
use Rattle.wf_layers.specs.Address.{Address, address, is_own, is_in}
use Rattle.wf_layers.specs.Source.{Source}
use Rattle.wf_layers.specs.Seen.{Answers as LocalAnswers}
use Rattle.wf_layers.specs.Enabled.{events}
use Rattle.wf_layers.specs.Laws.{IsInstance}
use Rattle.wf_layers.specs.Machine.{Running, State, Event, Start, Try, End, In, here, there, top, place, one, without, place_of, IsDecided, IsOver, fresh}
use Rattle.wf_layers.proofs.Decide.{once_is, closed_is_by, falls_is}
use Rattle.wf_layers.proofs.Enabled.{events_are_exact}
use Rattle.wf_layers.proofs.Seen.{answers_sound}
use Rattle.wf_quiet.specs.Quiet.{Answers, AreAmong, came, HasAnswer, AnsweredRun, IsQuiet, KnowsMore}
use Rattle.wf_quiet.specs.Example.{WaitsAndGoesOn}
use Rattle.wf_quiet.proofs.Answered.{is_run, joins}
use Rattle.wf_quiet.proofs.More.{run_goes_on}

abbrev pub graph : Graph
graph = add 0 [] Leaf (add 1 [] Leaf done)

abbrev pub depths : ℕ → ℕ
depths n = n

-- how many attempts 0 makes, and the row that it then has
abbrev pub source : ℕ → ℕ → Source ℕ ℕ ℕ Bool
source attempts row = record {
  status = λ r. Succeeded;
  skipped = 0;
  start = λ x t. 0;
  tries = λ x b. cond (nat_eq x.name 0) attempts 0;
  finish = λ x b t. cond (nat_eq x.name 0) row 0;
  decide = λ x t. 0;
  taken = λ c. c;
  items = λ c. c;
  test = λ x j t. true;
  ends = λ v. v;
  close = λ x c j v t. 0;
  halts = λ x t. false;
  pinned = λ n. false;
  old = λ x. None;
  reclosed = λ n. false;
}

-- An attempt without an answer would be the last.
abbrev pub waiting : Source ℕ ℕ ℕ Bool
waiting = source 2 0

abbrev pub complete : Source ℕ ℕ ℕ Bool
complete = source 3 7

-- the first so many attempts have an answer
abbrev pub up_to : ℕ → Answers
up_to c x k = nat_lt k (suc c)

abbrev pub St : Type 0
St = State ℕ ℕ ℕ Bool

-- a running leaf that has made so many attempts
abbrev made : ℕ → Running ℕ
made c = record { begun = 0; tries = c }

-- what the events lead to
abbrev pub tried : ℕ → ℕ → St → St
tried n c s = record { rows = s.rows; running = place (one n [] (made c)) s.running; opens = s.opens }

abbrev pub ended : ℕ → ℕ → St → St
ended n row s = record { rows = place (one n [] row) s.rows; running = without n [] s.running; opens = s.opens }

abbrev pub quiet_state : St
quiet_state = ended 1 0 (tried 1 0 (tried 0 1 (tried 0 0 fresh)))

abbrev pub last_state : St
last_state = ended 0 7 (tried 0 3 (tried 0 2 quiet_state))

abbrev to_quiet : List Event
to_quiet = Start 0 [] ∷ Try 0 [] ∷ Start 1 [] ∷ End 1 [] ∷ []

abbrev to_last : List Event
to_last = Try 0 [] ∷ Try 0 [] ∷ End 0 [] ∷ []

local : (attempts row : ℕ) → LocalAnswers graph (source attempts row) graph 0
local attempts row = (
  (λ i li t u h. refl),
  ((λ i li t u h. refl), λ i li t u b h. refl),
  ((λ i li t u h. refl), ((λ i li t u h. refl), λ i li t u b h. refl), tt),
)

instance_there : (attempts row : ℕ) → IsInstance graph (source attempts row) depths
instance_there attempts row = record {
  local = answers_sound graph (source attempts row) (once_is graph refl) (closed_is_by graph graph refl) (local attempts row);
  closed = closed_is_by graph graph refl;
  falls = falls_is depths graph refl;
  turns = (tt, (tt, tt));
  own = λ n. (refl, refl);
}

knows : KnowsMore (up_to 1) waiting complete
knows = record {
  same = refl;
  goes_on = λ x b c le has. on (nat_eq x.name 0) x c has;
  ends = λ x b c le has. end (nat_eq x.name 0) x c has;
  row = λ x b t has. rows (nat_eq x.name 0) x has;
}
  where
    on : (p : Bool) (x : Address) (c : ℕ) → came (up_to 1) x c ≡ true → nat_lt c (cond p 2 0) ≡ nat_lt c (cond p 3 0)
    on false x c has = refl
    on true x zero has = refl
    on true x (suc zero) has = refl
    on true x (suc (suc c)) has = absurd (let lt = ltb-true (suc (suc c)) 2 has in omega (arith, lt))

    end : (p : Bool) (x : Address) (c : ℕ) → came (up_to 1) x c ≡ true → nat_eq c (cond p 2 0) ≡ nat_eq c (cond p 3 0)
    end false x c has = refl
    end true x zero has = refl
    end true x (suc zero) has = refl
    end true x (suc (suc c)) has = absurd (let lt = ltb-true (suc (suc c)) 2 has in omega (arith, lt))

    rows : (p : Bool) (x : Address) → came (up_to 1) x (cond p 2 0) ≡ true → cond {A = ℕ} p 0 0 ≡ cond {A = ℕ} p 7 0
    rows false x has = refl
    rows true x has = absurd (true≢false (sym has))

among : AreAmong (up_to 1) (up_to 3)
among x k has = let lt = ltb-true k 2 has in lt-ltb k 4 (omega (arith, lt))

-- a leaf that isn't begun yet is decided, since it waits for nothing
idle : (m : Source ℕ ℕ ℕ Bool) (s : St) (n : ℕ) → In graph n [] Leaf → s.rows (address n []) ≡ None → s.running (address n []) ≡ None
    → s.opens (address n []) ≡ None → IsDecided graph m s n [] [] Leaf
idle m s n is_in no_row not_running not_open = record {
  is_there = record { graph = graph; is_open = top; is_in = is_in };
  no_row = no_row;
  not_running = not_running;
  not_open = not_open;
  ended = refl;
}

-- the next attempt of 0 has its answer
next_is_there : (c k : ℕ) (s : St) → s.running (address 0 []) ≡ Some (made k) → up_to c (address 0 []) (suc k) ≡ true
    → HasAnswer (up_to c) s (Try 0 [])
next_is_there c k s is has w e =
    let same : Some (made k) ≡ Some w = sym is ∙ e in let leaf : made k ≡ w = cc in
    ap (λ (u : Running ℕ). up_to c (address 0 []) (suc u.tries)) (sym leaf) ∙ has

waits : AnsweredRun (up_to 1) graph waiting fresh to_quiet quiet_state
waits = (
  tried 0 0 fresh,
  tt,
  ([], idle waiting fresh 0 here refl refl refl, refl, refl),
  (
    tried 0 1 (tried 0 0 fresh),
    next_is_there 1 0 (tried 0 0 fresh) refl refl,
    (made 0, refl, omega arith, refl),
    (
      tried 1 0 (tried 0 1 (tried 0 0 fresh)),
      tt,
      ([], idle waiting (tried 0 1 (tried 0 0 fresh)) 1 (there here) refl refl refl, refl, refl),
      (quiet_state, tt, (made 0, refl, refl, refl), refl),
    ),
  ),
)

only_try : (x : Address) (e : Event) → events waiting quiet_state graph [] x ≡ Some e → e ≡ Try 0 []
only_try x e is = go (is_in 0 Leaf [] x) (is_own 0 [] x) (is_in 1 Leaf [] x) (is_own 1 [] x) is
  where
    go : (p q u v : Bool) → cond p (cond q (Some (Try 0 [])) None) (cond u (cond v None None) None) ≡ Some e → e ≡ Try 0 []
    go true true u v h = cc
    go true false u v h = absurd (none-some e h)
    go false q true true h = absurd (none-some e h)
    go false q true false h = absurd (none-some e h)
    go false q false v h = absurd (none-some e h)

is_quiet : IsQuiet (up_to 1) graph waiting quiet_state
is_quiet e s' st has =
    let run = is_run (up_to 1) graph waiting fresh to_quiet quiet_state waits in
    let exact = events_are_exact graph waiting depths (instance_there 2 0) to_quiet quiet_state run in
    let is = only_try (place_of e) e (exact.each e s' st) in
    let none : HasAnswer (up_to 1) quiet_state (Try 0 []) = subst (λ z. HasAnswer (up_to 1) quiet_state z) is has in
    true≢false (sym (none (made 1) refl))

goes_on : AnsweredRun (up_to 3) graph complete quiet_state to_last last_state
goes_on = (
  tried 0 2 quiet_state,
  next_is_there 3 1 quiet_state refl refl,
  (made 1, refl, omega arith, refl),
  (
    tried 0 3 (tried 0 2 quiet_state),
    next_is_there 3 2 (tried 0 2 quiet_state) refl refl,
    (made 2, refl, omega arith, refl),
    (last_state, tt, (made 3, refl, refl, refl), refl),
  ),
)

nothing_there : (x : Address) (e : Event) → events complete last_state graph [] x ≡ Some e → ⊥
nothing_there x e is = go (is_in 0 Leaf [] x) (is_own 0 [] x) (is_in 1 Leaf [] x) (is_own 1 [] x) is
  where
    go : (p q u v : Bool) → cond p (cond q None None) (cond u (cond v None None) None) ≡ Some e → ⊥
    go true true u v h = none-some e h
    go true false u v h = none-some e h
    go false q true true h = none-some e h
    go false q true false h = none-some e h
    go false q false v h = none-some e h

is_over : IsOver graph complete last_state
is_over e s' st =
    let more_known = run_goes_on (up_to 1) graph waiting complete knows (up_to 3) among to_quiet quiet_state waits in
    let whole = joins (up_to 3) graph complete fresh to_quiet quiet_state more_known to_last last_state goes_on in
    let run = is_run (up_to 3) graph complete fresh (to_quiet ++ to_last) last_state whole in
    let exact = events_are_exact graph complete depths (instance_there 3 7) (to_quiet ++ to_last) last_state run in
    nothing_there (place_of e) e (exact.each e s' st)

pub waits_and_goes_on : WaitsAndGoesOn graph depths waiting complete (up_to 1) (up_to 3) quiet_state (address 0 []) 2
waits_and_goes_on = record {
  is_instance = instance_there 2 0;
  is_instance_then = instance_there 3 7;
  knows = knows;
  among = among;
  quiet = record { events = to_quiet; run = waits; quiet = is_quiet };
  wanted = record { leaf = made 1; runs = refl; next = refl; makes = refl; open_still = refl };
  events = to_last;
  last = last_state;
  goes_on = goes_on;
  is_over = is_over;
}
