use Rattle.text.specs.Steps.{says}
use Rattle.text.proofs.Sections.{refused_by, steps_by, no_header, no_variable}
use Rattle.text.proofs.progress.Progress.take_line.Goals as goal

pub returns-in-Header-Header : goal.returns-in-Header-Header
returns-in-Header-Header c =
    steps_by c.args.self.now c.args.line.now c.requires.printable _ c.in-Header-Header.ensures _ c.in-Header-Header.ensures' _ _ c.take_header.ensures

pub returns-in-Variables-Variable : goal.returns-in-Variables-Variable
returns-in-Variables-Variable c =
    steps_by c.args.self.now c.args.line.now c.requires.printable _ c.in-Variables-Variable.ensures _ c.in-Variables-Variable.ensures' _ _ c.take_variable.ensures

pub returns-in-Nodes-default : goal.returns-in-Nodes-default
returns-in-Nodes-default c =
    steps_by c.args.self.now c.args.line.now c.requires.printable _ c.in-Nodes-default.ensures _ c.line_kind.ensures _ _ c.take_node.ensures

pub returns-in_default : goal.returns-in_default
returns-in_default c =
    refused_by (says c.args.line.now) c.args.self.now _ (no_header c.args.self.now c.args.line.now c.requires.printable _ c.section.ensures _ c.line_kind.ensures c.in_default.is-0 c.in_default.not-Header-1)

pub returns-in_default-2 : goal.returns-in_default-2
returns-in_default-2 c =
    refused_by (says c.args.line.now) c.args.self.now _ (no_variable c.args.self.now c.args.line.now c.requires.printable _ c.section.ensures _ c.line_kind.ensures c.in_default.is-0 c.in_default.not-Variable-1)
