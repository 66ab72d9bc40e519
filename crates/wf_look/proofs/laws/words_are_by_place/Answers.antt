use Rattle.std.proofs.Common.{◌≡◌, ℕ, zero, suc, ◌∷◌, refl, ap, ◌∙◌}
use Rattle.wf_functions.specs.Words.{word_of}
use Rattle.wf_look.specs.Told.{Told, words, raised}
use Rattle.wf_look.proofs.laws.words_are_by_place.Goals as goal

words-same : (l m : Told) (n k : ℕ) → l.seed ≡ m.seed → l.place ≡ m.place → words l n k ≡ words m n k
words-same l m n zero seed place = refl
words-same l m n (suc k) seed place =
    ap (λ s. word_of s l.place n ∷ words l (raised n) k) seed
    ∙ (ap (λ p. word_of m.seed p n ∷ words l (raised n) k) place
    ∙ ap (λ ws. word_of m.seed m.place n ∷ ws) (words-same l m (raised n) k seed place))

pub returns : goal.returns
returns c = words-same
