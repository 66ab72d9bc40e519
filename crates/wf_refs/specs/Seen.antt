-- What an access asks for, as contracts see it.
use Rattle.std.specs.Prelude.{List, []}
use Rattle.wf_template.specs.ExprSeen.{expr_tree}
use Rattle.wf_template.specs.declared.chain.Access.{Access}
use Rattle.wf_uses.specs.Uses.{Use, uses}

-- what an access asks for, beside what it stands on
abbrev pub access_uses : Access → List Use
access_uses (Access.Member name soft) = []
access_uses (Access.Index key soft) = uses (expr_tree key.now)
