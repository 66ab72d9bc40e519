-- What a row of accesses asks for, and how many expressions its keys hold.
use Rattle.std.proofs.Common.{◌≡◌, ℕ, ◌+◌, ◌≤◌, List, [], ◌∷◌, ◌++◌, refl, sym, ◌∙◌, ap, arith, append_assoc, append-nil}
use Rattle.wf_template.specs.ChainSeen.{accessed, built}
use Rattle.wf_template.specs.ExprCounts.{expr_count}
use Rattle.wf_template.specs.ExprTree.{ExprTree}
use Rattle.wf_template.specs.declared.chain.Access.{Access}
use Rattle.wf_template.proofs.ChainLemmas.{key_count}
use Rattle.wf_uses.specs.Uses.{Use, uses}
use Rattle.wf_refs.specs.Seen.{access_uses}

-- the innermost access stands last, and what it asks for comes first
abbrev pub chained_uses : List Access → List Use
chained_uses [] = []
chained_uses (a ∷ rest) = chained_uses rest ++ access_uses a

accessed_uses : (b : ExprTree) (a : Access) → uses (accessed b a) ≡ uses b ++ access_uses a
accessed_uses b (Access.Member name soft) = sym (append-nil (uses b))
accessed_uses b (Access.Index key soft) = refl

pub built_uses : (b : ExprTree) (rest : List Access) → uses (built b rest) ≡ uses b ++ chained_uses rest
built_uses b [] = sym (append-nil (uses b))
built_uses b (a ∷ rest) =
    accessed_uses (built b rest) a
    ∙ ap (λ (us : List Use). us ++ access_uses a) (built_uses b rest)
    ∙ append_assoc (uses b) (chained_uses rest) (access_uses a)

pub chained-snoc : (rest : List Access) (a : Access) → chained_uses (rest ++ a ∷ []) ≡ access_uses a ++ chained_uses rest
chained-snoc [] a = sym (append-nil (access_uses a))
chained-snoc (x ∷ rest) a =
    ap (λ (us : List Use). us ++ access_uses x) (chained-snoc rest a)
    ∙ append_assoc (access_uses a) (chained_uses rest) (access_uses x)

-- what the keys of accesses count
abbrev pub keys_count : List Access → ℕ
keys_count [] = 0
keys_count (a ∷ rest) = key_count a + keys_count rest

pub keys_count-snoc : (rest : List Access) (a : Access) → keys_count (rest ++ a ∷ []) ≡ keys_count rest + key_count a
keys_count-snoc [] a = omega arith
keys_count-snoc (x ∷ rest) a = omega (arith, keys_count-snoc rest a)

key_and_base : (b : ExprTree) (a : Access) → key_count a + expr_count b ≤ expr_count (accessed b a)
key_and_base b (Access.Member name soft) = omega arith
key_and_base b (Access.Index key soft) = omega arith

pub keys_le_built : (b : ExprTree) (rest : List Access) → keys_count rest + expr_count b ≤ expr_count (built b rest)
keys_le_built b [] = omega arith
keys_le_built b (a ∷ rest) = omega (arith, keys_le_built b rest, key_and_base (built b rest) a)
