use Rattle.std.proofs.Common.{◌≡◌, ◌≤◌, [], ◌∷◌, ◌++◌, length, Ok, sym, refl, ap, ◌∙◌, arith}
use Rattle.std.proofs.lemmas.List.{length_push}
use Rattle.text.specs.Format.{and_then, with_variable, listed, variables_of}
use Rattle.text.specs.Steps.{sofar}
use Rattle.text.proofs.Names.{listed_variables_of}
use Rattle.text.proofs.progress.Progress.take_variable.Goals as goal
use Rattle.text.proofs.progress.Progress.take_variable.Goals.{After-push}

-- the variables, with one more
lists : (c : After-push) → (c.push.new.self ≡ variables_of (listed c.push.new.self)) × (listed c.push.new.self ≡ listed c.args.self.now.variables ++ c.in_ok-variable.variable ∷ [])
lists c =
    let before = listed c.args.self.now.variables in
    let v = c.in_ok-variable.variable in
    let is : c.push.new.self ≡ variables_of (before ++ v ∷ []) = c.push.ensures before c.args.self.now.variables_are in
    let few : length (before ++ v ∷ []) ≤ 64 = omega (arith, length_push before v, c.requires.due, c.args.self.now.limit_variables) in
    let same : listed c.push.new.self ≡ before ++ v ∷ [] = ap listed is ∙ listed_variables_of (before ++ v ∷ []) few in
    (is ∙ ap variables_of (sym same), same)

pub invariant_of-self : goal.invariant_of-self
invariant_of-self c =
    let s = c.args.self.now in
    record {
      first_line = omega arith;
      start = λ e. absurd (omega (arith, s.first_line));
      variables_are = (lists (goal.at.invariant_of-self c).After-push).0;
      limit_variables = s.limit_variables;
      limit_children = s.limit_children;
      room_nodes = s.room_nodes;
      room_children = s.room_children;
      nodes_within = s.nodes_within;
      children_within = s.children_within;
      lines = omega (arith, s.lines);
      places = c.requires.room;
    }

pub returns : goal.returns
returns c =
    let s = c.args.self.now in
    let size = length c.args.line.now in
    let next = with_variable (sofar s) size c.in_ok-variable.variable in
    let same = (lists (goal.at.returns c).After-push).1 in
    record {
      moves = record {
        says = ap (λ x. and_then x (λ w. Ok (with_variable (sofar s) size w))) (sym c.variable_line.ensures ∙ c.in_ok-variable.was)
            ∙ (λ i. Ok (record { header = next.header; variables = sym same i; nodes = next.nodes; children = next.children; line = next.line; place = next.place }));
        nodes = refl;
        children = refl;
        on = (omega arith, omega arith);
      };
      stores = record { nodes = refl; children = refl; nodes_long = refl; children_long = refl };
    }
