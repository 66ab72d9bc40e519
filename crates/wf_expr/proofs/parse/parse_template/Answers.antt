use Rattle.std.proofs.Common.{rules, chars}
use Rattle.wf_expr.specs.Parses.{Parses}
use Rattle.wf_expr.proofs.ParseLemmas.{spelled, only_template, faults, only_fault, only_length}
use Rattle.wf_expr.proofs.TextLemmas.{read, refused}
use Rattle.wf_expr.proofs.parse.parse_template.Goals as goal

pub returns-clause-spelled : goal.returns-clause-spelled
returns-clause-spelled c = let p : Parses c.parse_characters.result (chars c.args.text.now) = search rules in spelled c.parse_characters.result (chars c.args.text.now) p

pub returns-clause-only : goal.returns-clause-only
returns-clause-only c = let p : Parses c.parse_characters.result (chars c.args.text.now) = search rules in only_template c.parse_characters.result (chars c.args.text.now) p

pub returns-clause-faults : goal.returns-clause-faults
returns-clause-faults c = let p : Parses c.parse_characters.result (chars c.args.text.now) = search rules in faults c.parse_characters.result (chars c.args.text.now) p

pub returns-clause-syntax : goal.returns-clause-syntax
returns-clause-syntax c = let p : Parses c.parse_characters.result (chars c.args.text.now) = search rules in only_fault c.parse_characters.result (chars c.args.text.now) p

pub returns-clause-too_long : goal.returns-clause-too_long
returns-clause-too_long c = let p : Parses c.parse_characters.result (chars c.args.text.now) = search rules in only_length c.parse_characters.result (chars c.args.text.now) p

pub returns-clause-read : goal.returns-clause-read
returns-clause-read c = let p : Parses c.parse_characters.result (chars c.args.text.now) = search rules in read c.parse_characters.result c.args.text.now p

pub returns-clause-refused : goal.returns-clause-refused
returns-clause-refused c = let p : Parses c.parse_characters.result (chars c.args.text.now) = search rules in refused c.parse_characters.result c.args.text.now p
