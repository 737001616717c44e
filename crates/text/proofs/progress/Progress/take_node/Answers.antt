use Rattle.std.proofs.Common.{◌≡◌, ◌-◌, length, drop, sym, refl, ap, ◌∙◌, arith}
use Rattle.std.proofs.lemmas.List.{length-map, length-drop, length-set}
use Rattle.text.specs.declared.kind.Section.TheVariants as section
use Rattle.text.specs.Lines.{fields}
use Rattle.text.specs.Format.{number_or_zero, fitting}
use Rattle.text.specs.Steps.{line_entry, says_in}
use Rattle.text.proofs.Cuts.{few_fields}
use Rattle.text.proofs.Sections.{refused_by}
use Rattle.text.proofs.Stores.{node_refused, node_room, node_taken, stays_within}
use Rattle.text.proofs.progress.Progress.take_node.Goals as goal
use Rattle.text.proofs.progress.Progress.take_node.Goals.{After-field_count}

-- how many children the line has
counted : (c : After-field_count) → c.field_count.result - c.in_ok-said.said.from ≡ length (line_entry (fields c.args.line.now) c.in_ok-said.said).children
counted c =
    let fs = fields c.args.line.now in
    let from = c.in_ok-said.said.from in
    ap (λ n. n - from) c.field_count.ensures ∙ sym (length-drop from fs) ∙ sym (length-map (drop from fs) number_or_zero)

pub children_fit-requires : goal.children_fit-requires
children_fit-requires c =
    let s = c.args.self.now in
    omega (arith, c.field_count.ensures, few_fields c.args.line.now, s.children_within, s.limit_children, c.requires.room)

pub returns-then-not-children_fit : goal.returns-then-not-children_fit
returns-then-not-children_fit c =
    let s = c.args.self.now in
    let e = line_entry (fields c.args.line.now) c.in_ok-said.said in
    let fits = c.if-not-children_fit.ensures ∙ ap (fitting s.header s.nodes s.children) (counted (goal.at.returns-then-not-children_fit c).After-field_count) in
    refused_by (says_in section.Nodes c.args.line_kind c.args.line.now) s _ (node_refused s (length c.args.line.now) e c.requires.due _ c.in_ok-said.ensures.0 (sym fits))

pub write_numbers-requires : goal.write_numbers-requires
write_numbers-requires c =
    let s = c.args.self.now in
    let fs = fields c.args.line.now in
    let said = c.in_ok-said.said in
    let fits = c.if-not-children_fit.ensures ∙ ap (fitting s.header s.nodes s.children) (counted (goal.at.write_numbers-requires c).After-field_count) in
    omega (arith, node_room s (length c.args.line.now) (line_entry fs said) c.requires.due (sym fits), length-map (drop said.from fs) number_or_zero)

pub invariant_of-self : goal.invariant_of-self
invariant_of-self c =
    let s = c.args.self.now in
    record {
      first_line = s.first_line;
      start = s.start;
      variables_are = s.variables_are;
      limit_variables = s.limit_variables;
      limit_children = s.limit_children;
      room_nodes = s.room_nodes;
      room_children = omega (arith, s.room_children, c.write_numbers.auto.store);
      nodes_within = s.nodes_within;
      children_within = s.children_within;
      lines = s.lines;
      places = s.places;
    }

pub invariant_of-self-2 : goal.invariant_of-self-2
invariant_of-self-2 c =
    let s = c.args.self.now in
    let e = line_entry (fields c.args.line.now) c.in_ok-said.said in
    let count = counted (goal.at.invariant_of-self-2 c).After-field_count in
    let fits = c.if-not-children_fit.ensures ∙ ap (fitting s.header s.nodes s.children) count in
    record {
      first_line = omega arith;
      start = λ h. absurd (omega (arith, s.first_line));
      variables_are = s.variables_are;
      limit_variables = s.limit_variables;
      limit_children = s.limit_children;
      room_nodes = omega (arith, s.room_nodes, length-set s.node_store.now s.nodes);
      room_children = omega (arith, s.room_children, c.write_numbers.auto.store);
      nodes_within = omega (arith, c.requires.due);
      children_within = omega (arith, stays_within s (length c.args.line.now) e c.requires.due (sym fits), count);
      lines = omega (arith, s.lines);
      places = c.requires.room;
    }

pub returns : goal.returns
returns c =
    let s = c.args.self.now in
    let e = line_entry (fields c.args.line.now) c.in_ok-said.said in
    let count = counted (goal.at.returns c).After-field_count in
    let fits = c.if-not-children_fit.ensures ∙ ap (fitting s.header s.nodes s.children) count in
    record {
      moves = node_taken s (length c.args.line.now) e c.requires.due (sym fits) _ c.in_ok-said.ensures.0 _ count _ refl refl refl refl refl refl refl c.write_numbers.ensures;
      stores = record { nodes = refl; children = refl; nodes_long = length-set s.node_store.now s.nodes _; children_long = c.write_numbers.auto.store };
    }
