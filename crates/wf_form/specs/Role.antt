-- What the values of a definition stand for: its sections, their members, and the graphs in the actions.
use Rattle.std.specs.Prelude.{ℕ, ◌+◌, nat_lt, List, Option, Some, None, if◌then◌else◌, bytes_eq, codes}
use Rattle.wf_val.specs.ValueTree.{ValueTree}
use Rattle.wf_texts.specs.ActionType.{type_of}
use Rattle.wf_texts.specs.KindsActionType.{ActionType}
use Rattle.wf_form.specs.declared.role.Role.{Role}
use Rattle.wf_form.specs.declared.role.Holder.{Holder}

-- the level of the actions in a container that stands at a level; past 8 all levels are 9
abbrev pub deeper : ℕ → ℕ
deeper level = if nat_lt level 9 then level + 1 else 9

abbrev pub holder_by : Option ActionType → Holder
holder_by (Some ActionType.Scope) = Holder.One
holder_by (Some ActionType.Foreach) = Holder.One
holder_by (Some ActionType.Until) = Holder.One
holder_by (Some ActionType.If) = Holder.Two
holder_by (Some ActionType.Switch) = Holder.Many
holder_by t = Holder.Nothing

-- by the type of the action that a value may be
abbrev pub holder_of : ValueTree → Holder
holder_of t = holder_by (type_of t)

-- the sections of a definition
abbrev pub section : List ℕ → Option Role
section key =
    if bytes_eq key (codes "actions") then Some (Role.Graph 1) else
    (if bytes_eq key (codes "parameters") then Some Role.Parameters else
    (if bytes_eq key (codes "triggers") then Some Role.Triggers else
    (if bytes_eq key (codes "outputs") then Some Role.Outputs else None)))

abbrev pub graph_at : ℕ → List ℕ → Option Role
graph_at level key = if bytes_eq key (codes "actions") then Some (Role.Graph (deeper level)) else None

-- the members of an action that hold graphs
abbrev pub held : Holder → ℕ → List ℕ → Option Role
held Holder.Nothing level key = None
held Holder.One level key = graph_at level key
held Holder.Two level key = if bytes_eq key (codes "else") then Some (Role.Branch level) else graph_at level key
held Holder.Many level key =
    if bytes_eq key (codes "cases") then Some (Role.Cases level) else
    (if bytes_eq key (codes "default") then Some (Role.Branch level) else None)

-- what a member stands for, by what has it; None where it stands for nothing
abbrev pub child : Role → Holder → List ℕ → Option Role
child Role.Definition holder key = section key
child Role.Parameters holder key = Some Role.Parameter
child Role.Triggers holder key = Some Role.Trigger
child Role.Outputs holder key = Some Role.Output
child Role.Parameter holder key = None
child Role.Trigger holder key = None
child Role.Output holder key = None
child (Role.Graph level) holder key = Some (Role.Action level)
child (Role.Action level) holder key = held holder level key
child (Role.Branch level) holder key = graph_at level key
child (Role.Cases level) holder key = Some (Role.Case level)
child (Role.Case level) holder key = graph_at level key
