-- What is printed for a table and its weight text, by the answers on the way.
use Rattle.std.proofs.Common.{◌≡◌, ℕ, List, [], ◌∷◌, drop, Some, None, Ok, Err, Option, Result, String, sym, refl, ap, ap₂, ◌∙◌, subst, arith}
use Rattle.std.specs.Result.{IsErr, IsErrAnd}
use Rattle.std.specs.declared.alloc.Global.{Global}
use Rattle.kinds.specs.Semiring.{Semiring}
use Rattle.kinds.specs.Texts.{Notation}
use Rattle.text.specs.Format.{listed}
use Rattle.text.specs.Printed.{Lines, text_of, PlainNames}
use Rattle.text.specs.declared.record.Contents.{Contents}
use Rattle.text.specs.declared.record.Node.{Node}
use Rattle.text.proofs.Filled.{plain_names}
use Rattle.parts.specs.Parts.{ArePartsOf, IsTableOf, check_parts, largest, read_from}
use Rattle.parts.specs.declared.stores.Parts.{Parts}
use Rattle.parts.specs.declared.stores.Room.{Room}
use Rattle.table.specs.Check.{check_says}
use Rattle.table.specs.Whole.{circuit}
use Rattle.table.specs.declared.sets.Mentions.{Mentions}
use Rattle.table.specs.declared.fault.Fault as table
use Rattle.table.specs.declared.fault.Fault.TheVariants.{Text}
use Rattle.table.specs.declared.table.Table as table_struct
use Rattle.search.specs.declared.fault.Fault.TheVariants.{Table}
use Rattle.text.specs.declared.record.Variables.{Variables}
use Rattle.table.specs.Circuit.{Shape}
use Rattle.table.specs.Nodes.{roles_of, shapes}
use Rattle.passes.specs.Holding.{Entries}
use Rattle.passes.specs.Passes.{bound}
use Rattle.passes.specs.Problem.{Problem, under_holds}
use Rattle.search.specs.Calls.{bound_answer, select_answer}
use Rattle.search.specs.Orders.{Order}
use Rattle.search.specs.Select.{select}
use Rattle.search.specs.Study.{unheld, first_fit, answered, bound_tests}
use Rattle.search.specs.Weights.{WeightReading, weights_say}
use Rattle.search.specs.declared.fault.Fault.{Fault}
use Rattle.search.specs.declared.found.Found.{Found}
use Rattle.report.specs.Report.{refusal, report_of}
use Rattle.report.specs.Plant.{unless_refused, unless_file_refused, unless_weights_refused, unheld_problem, study_report}
use Rattle.report.specs.Stops.{Prints}
use Rattle.report.specs.declared.stop.Stop.{Stop}
use Rattle.report.specs.declared.stop.Stop.TheVariants.{Refused, NoMemory}

-- a refusal that `?` hands on
pub refused_says : (P : Type 0) (ls : Lines) (f : Fault) (r : Result (String Global) Stop) → IsErr r × IsErrAnd r (λ s. s ≡ Refused f) → ls ≡ refusal f ∷ [] → Prints P ls r
refused_says P ls f (Ok s) h e = absurd (cc h.0)
refused_says P ls f (Err s) h e = let Q : Stop → Type 0 = λ t. Prints P ls (Err t) in subst Q (sym h.1) e

-- what follows an answer

module _ {A E : Type 0} (wrap : E → Fault) (answer : Result A E) (next : A → Lines) where
  pub passed : (a : A) → Ok a ≡ answer → unless_refused wrap answer next ≡ next a
  passed a is = ap (λ o. unless_refused wrap o next) (sym is)

  pub stopped : (e : E) → Err e ≡ answer → unless_refused wrap answer next ≡ refusal (wrap e) ∷ []
  stopped e is = ap (λ o. unless_refused wrap o next) (sym is)

-- of one list of tests, every answer is refused alike

abbrev answer_by : {A : Type 0} → Option Fault → A → Result A Fault
answer_by o a = elim o [ None ↦ Ok a | Some f ↦ Err f ]

module _ {A B : Type 0} (a : A) (b : B) where
  refused_alike : (o : Option Fault) (f : Fault) → Err f ≡ answer_by o a → Err f ≡ answer_by o b
  refused_alike None f e = absurd (let z : ◌≡◌ {A = ℕ} 0 1 = cc in omega arith)
  refused_alike (Some g) f e = let same : f ≡ g = cc in ap Err same

  accepted_alike : (o : Option Fault) (x : A) → Ok x ≡ answer_by o a → (x ≡ a) × (Ok b ≡ answer_by o b)
  accepted_alike None x e = (cc, refl)
  accepted_alike (Some g) x e = absurd (let z : ◌≡◌ {A = ℕ} 0 1 = cc in omega arith)

module _ {F : Type 0} (R : Semiring F) (N : Notation F) (pick : Order F) (vs : Variables) (ss : List Shape) where
  -- bound and select, with holds that are none

  module _ (size : ℕ) (sheet : List F) (h : Entries) (new : h ≡ unheld) where
    abbrev asked : Entries → Problem F
    asked e = under_holds (unheld_problem vs ss sheet) e

    abbrev lines : Unit {0} → Lines
    lines _ = report_of N (listed vs) (bound R (asked unheld)) (select R pick (asked unheld))

    at_room : {A : Type 0} (x : A) (n : ℕ) → n ≡ size → answered (bound_tests (asked h) n) x ≡ answered (bound_tests (asked unheld) size) x
    at_room x n same = ap₂ (λ k e. answered (bound_tests (asked e) k) x) same new

    pub unanswered : {A : Type 0} (x : A) (n : ℕ) → n ≡ size → (f : Fault) → Err f ≡ answered (bound_tests (asked h) n) x
        → study_report R N pick size vs ss sheet ≡ refusal f ∷ []
    unanswered x n same f is =
        let tests = bound_tests (asked unheld) size in
        stopped (λ e. e) (answered tests (tt {0})) lines f (refused_alike x (tt {0}) (first_fit tests) f (is ∙ at_room x n same))

    pub selected : (n : ℕ) → n ≡ size → (most : F) → Ok most ≡ bound_answer R (asked h) n
        → (k : ℕ) → k ≡ size → (found : Found F) → Ok found ≡ select_answer R (asked h) k pick
        → study_report R N pick size vs ss sheet ≡ report_of N (listed vs) most found
    selected n same most is k kept found got =
        let tests = bound_tests (asked unheld) size in
        let b = accepted_alike (bound R (asked h)) (tt {0}) (first_fit tests) most (is ∙ at_room (bound R (asked h)) n same) in
        let s = accepted_alike (select R pick (asked h)) (tt {0}) (first_fit tests) found (got ∙ at_room (select R pick (asked h)) k kept) in
        passed (λ e. e) (answered tests (tt {0})) lines (tt {0}) b.1
        ∙ sym (ap₂ (report_of N (listed vs)) (b.0 ∙ ap (λ e. bound R (asked e)) new) (s.0 ∙ ap (λ e. select R pick (asked e)) new))

-- the weight text, read into a sheet of so many zeros

module _ {F : Type 0} (R : Semiring F) (N : Notation F) (vs : Variables) (zeros start : List F) (blank : start ≡ zeros) (weights : List ℕ) (next : List F → Lines) where
  abbrev read_into : List F → WeightReading F
  read_into sheet = weights_say R N (roles_of vs) sheet weights

  pub unread : (f : Fault) → Err f ≡ (read_into start).answer → unless_weights_refused R N vs zeros weights next ≡ refusal f ∷ []
  unread f is = stopped (λ e. e) (read_into zeros).answer (λ _. next (read_into zeros).sheet) f (is ∙ ap (λ s. (read_into s).answer) blank)

  pub read : Ok tt ≡ (read_into start).answer → (sheet : List F) → sheet ≡ (read_into start).sheet → unless_weights_refused R N vs zeros weights next ≡ next sheet
  read is sheet left =
      passed (λ e. e) (read_into zeros).answer (λ _. next (read_into zeros).sheet) tt (is ∙ ap (λ s. (read_into s).answer) blank)
      ∙ ap next (sym (left ∙ ap (λ s. (read_into s).sheet) blank))

-- a file whose parts are accepted

-- the names of its table are of plain bytes
pub plain_table : (r : Room) (file : List ℕ) (p : Parts) (t : table_struct.Table) → ArePartsOf r file p → IsTableOf p t → PlainNames (listed t.variables)
plain_table r file p t a of =
    let P : Variables → Type 0 = λ vs. PlainNames (listed vs) in
    subst P (sym of.variables_are) (plain_names (listed p.contents.variables) a.names_are)

-- under what is known of the names
pub says_of : (P : Type 0) (ls ms : Lines) (r : Result (String Global) Stop) → P → ms ≡ ls → Prints P ls r → Prints (Unit {0}) ms r
says_of P ls ms (Ok s) p e h = λ _. h p ∙ ap text_of (sym e)
says_of P ls ms (Err (Refused f)) p e h = e ∙ h
says_of P ls ms (Err (NoMemory m)) p e h = tt

module _ (next : Variables → List Shape → List ℕ → Lines) (file : List ℕ) (p : Parts) (a : ArePartsOf largest file p) where
  abbrev checked : Variables → List Node → List ℕ → List ℕ → Lines
  checked vs ns cs weights = unless_refused Table (check_says vs ns cs) (λ _. next vs (shapes cs ns) weights)

  abbrev rest : Contents → Lines
  rest c = checked c.variables (read_from largest file).nodes (read_from largest file).children (drop c.weights file)

  read_file : unless_file_refused file next ≡ checked p.contents.variables p.nodes.items p.children.items (drop p.contents.weights file)
  read_file =
      passed (λ f. Table (Text f)) (read_from largest file).answer rest p.contents (sym a.is_accepted)
      ∙ ap₂ (λ ns cs. checked p.contents.variables ns cs (drop p.contents.weights file)) (sym a.nodes_are) (sym a.children_are)

  abbrev on_table : Mentions → Lines
  on_table m = next p.contents.variables (shapes p.children.items p.nodes.items) (drop p.contents.weights file)

  pub unchecked : (f : table.Fault) → check_parts p ≡ Err f → unless_file_refused file next ≡ refusal (Table f) ∷ []
  unchecked f e = read_file ∙ stopped Table (check_parts p) on_table f (sym e)

  pub checked_file : (t : table_struct.Table) → IsTableOf p t → (weights : List ℕ) → weights ≡ drop p.contents.weights file → unless_file_refused file next ≡ next t.variables (circuit t) weights
  checked_file t of weights w =
      read_file
      ∙ passed Table (check_parts p) on_table t.mentions (sym of.is_accepted)
      ∙ ap₂ (λ vs ss. next vs ss (drop p.contents.weights file)) (sym of.variables_are) (ap₂ shapes (sym of.children_are) (sym of.nodes_are))
      ∙ ap (next t.variables (circuit t)) (sym w)
