-- The names of an accepted file are printable.
use Rattle.std.proofs.Common.{◌≡◌, ℕ, ◌+◌, ◌≤◌, Bool, true, false, cond, not, ◌&&◌, eqb, leb, List, [], ◌∷◌, ◌++◌, length, min, take, drop, replicate, Ok, sym, refl, ap, ap₂, ◌∙◌, subst}
use Rattle.std.specs.List.{onto_first, list_all}
use Rattle.std.specs.Option.{ok_or}
use Rattle.std.proofs.lemmas.Bool.{and_parts, and_from, leb-true}
use Rattle.std.proofs.lemmas.List.{take-append-drop}
use Rattle.std.proofs.lemmas.List.Folds.{list_all-append}
use Rattle.text.specs.declared.fault.Reason.TheVariants as reason
use Rattle.text.specs.declared.record.Contents.{Contents}
use Rattle.text.specs.declared.record.Role.{Role}
use Rattle.text.specs.declared.record.Variable.{Variable}
use Rattle.text.specs.Lines.{printable, fields}
use Rattle.text.specs.Format.{Rooms, Sofar, number_field, role_of, blank, variables_of, listed, is_named, is_option_role, option_count, follows_rules, variable_says, line_says, file_says, named_printable}
use Rattle.text.proofs.Limits.{never, same_ok, provided_ok, then_ok}
use Rattle.text.proofs.Names.{spelled_name_of}
use Rattle.text.proofs.Runs.{Accepts, header, variable, node, line_accepts, file_holds}

-- the fields of a printable line are printable
onto_printable : (x : ℕ) (fs : List (List ℕ)) → printable x ≡ true → list_all (list_all printable) fs ≡ true → list_all (list_all printable) (onto_first x fs) ≡ true
onto_printable x [] h k = and_from (printable x && true) true (and_from (printable x) true h refl) refl
onto_printable x (f ∷ fs) h k =
    let q = and_parts (list_all printable f) (list_all (list_all printable) fs) k in
    and_from (printable x && list_all printable f) (list_all (list_all printable) fs) (and_from (printable x) (list_all printable f) h q.0) q.1

fields_printable : (l : List ℕ) → list_all printable l ≡ true → list_all (list_all printable) (fields l) ≡ true
fields_printable [] h = refl
fields_printable (x ∷ xs) h =
    let q = and_parts (printable x) (list_all printable xs) h in
    let more = fields_printable xs q.1 in
    elim (eqb x 9) as (λ t. list_all (list_all printable) (cond t ([] ∷ fields xs) (onto_first x (fields xs))) ≡ true) [
      | true ↦ more
      | false ↦ onto_printable x (fields xs) q.0 more
    ]

-- a variable line with printable fields gives a printable name
rules_short : (before : List Variable) (n : ℕ) (r : Role) (name : List ℕ) → follows_rules before n r name ≡ true → length name ≤ 24
rules_short before n r name h =
    let a = and_parts (eqb n (length before + 1) && (leb 1 (length name) && leb (length name) 24) && not (is_named name before)) (leb (option_count before + cond (is_option_role r) 1 0) 20) h in
    let b = and_parts (eqb n (length before + 1) && (leb 1 (length name) && leb (length name) 24)) (not (is_named name before)) a.0 in
    let c = and_parts (eqb n (length before + 1)) (leb 1 (length name) && leb (length name) 24) b.0 in
    leb-true (length name) 24 (and_parts (leb 1 (length name)) (leb (length name) 24) c.1).1

variable_printable : (before : List Variable) (fs : List (List ℕ)) (v : Variable) → variable_says before fs ≡ Ok v → list_all (list_all printable) fs ≡ true → named_printable v ≡ true
unfolding variable_says
variable_printable before (a ∷ b ∷ c ∷ []) v e h =
    let p = then_ok (number_field a) _ v e in
    let r = then_ok (ok_or (role_of b) reason.Variable) _ v p.2 in
    let s = provided_ok (follows_rules before p.0 r.0 c) reason.Variable _ v r.2 in
    let q = and_parts (list_all printable a) (list_all (list_all printable) (b ∷ c ∷ [])) h in
    let u = and_parts (list_all printable b) (list_all (list_all printable) (c ∷ [])) q.1 in
    subst (λ x. named_printable x ≡ true) (same_ok _ _ s.1)
    (ap (list_all printable) (spelled_name_of c (rules_short before p.0 r.0 c s.0)) ∙ (and_parts (list_all printable c) true u.1).0)
variable_printable before fs v e h = never reason.Line v e

-- an accepted line keeps the names printable
keeps_printable : (rooms : Rooms) (s : Sofar) (size : ℕ) (fs : List (List ℕ)) (t : Sofar) → list_all (list_all printable) fs ≡ true → list_all named_printable s.variables ≡ true → Accepts rooms s size fs t → list_all named_printable t.variables ≡ true
keeps_printable rooms s size fs _ clean good (header h is says) = good
keeps_printable rooms s size fs _ clean good (variable v says) =
    list_all-append named_printable s.variables (v ∷ []) ∙ ap₂ ◌&&◌ good (and_from (named_printable v) true (variable_printable s.variables fs v says clean) refl)
keeps_printable rooms s size fs _ clean good (node k e is says fits) = good

line_printable : (rooms : Rooms) (s t : Sofar) (l : List ℕ) → list_all named_printable s.variables ≡ true → line_says rooms s l ≡ Ok t → list_all named_printable t.variables ≡ true
line_printable rooms s t l good e =
    let p = line_accepts rooms s l t e in
    keeps_printable rooms s (length l) (drop 1 (fields l)) t (behind (fields l) (fields_printable l p.0)) good p.1
  where
    behind : (fs : List (List ℕ)) → list_all (list_all printable) fs ≡ true → list_all (list_all printable) (drop 1 fs) ≡ true
    behind [] h = refl
    behind (f ∷ fs) h = (and_parts (list_all printable f) (list_all (list_all printable) fs) h).1

-- what holds of each element holds of those in front
front : {A : Type 0} (p : A → Bool) (n : ℕ) (xs : List A) → list_all p xs ≡ true → list_all p (take n xs) ≡ true
front p n xs h =
    (and_parts (list_all p (take n xs)) (list_all p (drop n xs)) (sym (list_all-append p (take n xs) (drop n xs)) ∙ ap (list_all p) (take-append-drop n xs) ∙ h)).0

-- what is accepted has printable names
pub file_printable : (rooms : Rooms) (file : List ℕ) (c : Contents) → (file_says rooms file).answer ≡ Ok c → list_all named_printable (listed c.variables) ≡ true
file_printable rooms file c =
    file_holds rooms (λ s. list_all named_printable s.variables ≡ true) (λ s t l _ good e. line_printable rooms s t l good e) c (λ _. list_all named_printable (listed c.variables) ≡ true)
    (λ s _ good e.
    let same : variables_of s.variables ≡ c.variables = cc in
    let all = s.variables ++ replicate 64 blank in
    let filled = list_all-append named_printable s.variables (replicate 64 blank) ∙ ap₂ ◌&&◌ good refl in
    subst (λ vs. list_all named_printable (listed vs) ≡ true) same (front named_printable (min (length s.variables) 64) (take 64 all) (front named_printable 64 all filled))) file refl
