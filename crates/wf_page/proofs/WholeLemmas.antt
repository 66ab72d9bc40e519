-- Where the files tell and no count rose, what is said of them was written, or memory ran out.
use Rattle.std.proofs.Common.{◌≡◌, ◌∙◌, ℕ, List, [], ◌∷◌, ◌++◌, length, Option, None, Some, Result, inl, inr, ap, sym}
use Rattle.std.proofs.Common.{subst, arith, length-append}
use Rattle.std.specs.Option.{IfSome}
use Rattle.std.specs.Io.KnownBytes.{Appends}
use Rattle.wf_files.specs.Form.{definition_form}
use Rattle.wf_outside.specs.Outside.{Held, IsCalm, Rose}
use Rattle.wf_page.specs.Answered.{Tells, outcome_of}
use Rattle.wf_page.specs.Judged.{Files, SaidTree, by_definition, judged, say}
use Rattle.wf_page.specs.Served.{Comes, MayGive, MayGiveAll, MayGiveEarlier, Misused, Outcome, Reaches, Says, Serves, Spent, Unread}
use Rattle.wf_page.specs.Served.{definition_limit, log_limit, status_of, text_of}
use Rattle.wf_page.specs.Whole.{IsSaid, Judges}
use Rattle.wf_page.specs.Words.{Asked, asked_of}
use Rattle.wf_page.specs.declared.loading.Stop as code
use Rattle.wf_page.specs.declared.said.Said.{Said}

abbrev Content : Type 0
Content = List ℕ → Option (List ℕ)

-- where the files tell, a read gives one thing alone
gives_one : (bytes_of : Content) (limit : ℕ) (name : List ℕ) (a b : Option (List ℕ)) → MayGive (Some bytes_of) limit name a
    → MayGive (Some bytes_of) limit name b → a ≡ b
gives_one bytes_of limit name a b first second = let e : Some a ≡ Some b = sym first ∙ second in cc (e)

gives_one_earlier : (bytes_of : Content) (name : Option (List ℕ)) (a b : Option (Option (List ℕ))) → MayGiveEarlier (Some bytes_of) name a
    → MayGiveEarlier (Some bytes_of) name b → a ≡ b
gives_one_earlier bytes_of None a b first second = first ∙ sym second
gives_one_earlier bytes_of (Some name) None b first second = absurd first
gives_one_earlier bytes_of (Some name) (Some a) None first second = absurd second
gives_one_earlier bytes_of (Some name) (Some a) (Some b) first second = ap Some (gives_one bytes_of log_limit name a b first second)

judged_once : (bytes_of : Content) (asked : Asked) (a b : Files) → MayGiveAll (Some bytes_of) asked a → MayGiveAll (Some bytes_of) asked b
    → judged a ≡ judged b
judged_once bytes_of asked a b first second =
    ap (λ x. by_definition (definition_form x) a.log a.earlier)
    (gives_one bytes_of definition_limit asked.definition a.definition b.definition first.definition second.definition)
    ∙ (ap (λ x. by_definition (definition_form b.definition) x a.earlier)
    (gives_one bytes_of log_limit asked.log a.log b.log first.log second.log)
    ∙ ap (λ x. by_definition (definition_form b.definition) b.log x)
    (gives_one_earlier bytes_of asked.earlier a.earlier b.earlier first.earlier second.earlier))

-- a list isn't itself with one more
no_longer : (xs ys : List (List ℕ)) (x : List ℕ) → ys ≡ xs ++ x ∷ [] → ys ≡ xs → ⊥
no_longer xs ys x more same = omega (arith, ap length more, ap length same, length-append xs (x ∷ []))

said_at : (bytes_of : Content) (asked : Asked) (files : Files) (old new : List (List ℕ)) (before after : Option (List ℕ)) (result : ℕ)
    (outcome : Outcome) → Reaches (Some bytes_of) asked old new outcome → MayGiveAll (Some bytes_of) asked files → new ≡ old
    → result ≡ status_of outcome → Appends before after (text_of outcome) → IsSaid (judged files) before after result
said_at bytes_of asked files old new before after result Misused reaches gives same is all = absurd reaches
said_at bytes_of asked files old new before after result (Says status text) reaches gives same is all =
    let e : judged files ≡ say status text = judged_once bytes_of asked files reaches.1.0 gives reaches.1.1 ∙ reaches.1.2 in
    subst (λ s. IsSaid s before after result) (sym e) (inl (is, all))
said_at bytes_of asked files old new before after result (Unread name) reaches gives same is all =
    absurd (no_longer old new name reaches.1 same)
said_at bytes_of asked files old new before after result Spent reaches gives same is all = inr (is, all)

said_by : (bytes_of : Content) (asked : Asked) (files : Files) (words old new : List (List ℕ)) (before after : Option (List ℕ)) (result : ℕ)
    → Serves (Some bytes_of) words old new before after result → asked_of words ≡ Some asked → MayGiveAll (Some bytes_of) asked files
    → new ≡ old → (result ≡ 4 → ⊥) → IsSaid (judged files) before after result
said_by bytes_of asked files words old new before after result serves is gives same no_four =
    let comes : Reaches (Some bytes_of) asked old new serves.outcome =
    subst (λ a. Comes (Some bytes_of) a old new serves.outcome) is serves.comes in
    elim serves.writes [
      | inl all ↦ said_at bytes_of asked files old new before after result serves.outcome comes gives same all.0 all.1
      | inr cut ↦ absurd (no_four cut.0)
    ]

pub serves_whole : (held : Held) (words old new : List (List ℕ)) (before after : Option (List ℕ)) (count later result : ℕ)
    → Serves held words old new before after result → (result ≡ 4 → Rose count later)
    → IfSome held (λ bytes_of. (said : SaidTree) → Judges bytes_of words said → new ≡ old → IsCalm count later
    → IsSaid said before after result)
serves_whole None words old new before after count later result serves four = tt
serves_whole (Some bytes_of) words old new before after count later result serves four = λ said judges same calm.
    subst (λ s. IsSaid s before after result) judges.says
    (said_by bytes_of judges.asked judges.files words old new before after result serves judges.asks judges.gives same
    (λ ended. let rose : Rose count later = four ended in omega arith))

-- words that ask for nothing
pub nothing_asked : (held : Held) (words old new : List (List ℕ)) (before after : Option (List ℕ)) (count later result : ℕ)
    → asked_of words ≡ None
    → IfSome held (λ bytes_of. (said : SaidTree) → Judges bytes_of words said → new ≡ old → IsCalm count later
    → IsSaid said before after result)
nothing_asked None words old new before after count later result none = tt
nothing_asked (Some bytes_of) words old new before after count later result none = λ said judges same calm.
    absurd (let e : Some judges.asked ≡ None = sym judges.asks ∙ none in cc)

-- memory may run out, whatever was to be said
spends : (held : Held) (asked : Asked) (old new : List (List ℕ)) (outcome : Outcome) → Reaches held asked old new outcome
    → Reaches held asked old new Spent
spends held asked old new Misused reaches = absurd reaches
spends held asked old new (Says status text) reaches = inl reaches.0
spends held asked old new (Unread name) reaches = inr (name, reaches.0, reaches.1)
spends held asked old new Spent reaches = reaches

-- an answer that was told of
pub told : (held : Held) (words : List (List ℕ)) (asked : Asked) (old new : List (List ℕ)) (before after : Option (List ℕ)) (result : ℕ)
    (answered : Result Said code.Stop) → asked_of words ≡ Some asked → Reaches held asked old new (outcome_of answered)
    → Tells answered before after result → Serves held words old new before after result
told held words asked old new before after result answered is reaches (inl writes) = record {
  outcome = outcome_of answered;
  comes = subst (λ a. Comes held a old new (outcome_of answered)) (sym is) reaches;
  writes = writes;
}
told held words asked old new before after result answered is reaches (inr writes) = record {
  outcome = Spent;
  comes = subst (λ a. Comes held a old new Spent) (sym is) (spends held asked old new (outcome_of answered) reaches);
  writes = writes;
}
