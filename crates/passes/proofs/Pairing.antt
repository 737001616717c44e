-- What the pair pass computes from the work table is a part, and the parts follow each other.
use Rattle.std.proofs.Common.{◌≡◌, ℕ, zero, suc, ◌+◌, ◌*◌, ◌<◌, ◌≤◌, Bool, true, false, cond, ◌&&◌, List, [], ◌∷◌, ◌++◌, map, length, get_or, take, drop, None, sym, refl, ap, ◌∙◌, ap₂, append_assoc, add-mul, one-mul, arith}
use Rattle.std.specs.List.{filter}
use mathlib.Core.Path.{fun_ext}
use Rattle.std.proofs.lemmas.List.{take_at, drop-drop, drop_at, length-take-le, take_all}
use Rattle.std.proofs.lemmas.Bool.{cond-true, and_from}
use Rattle.kinds.specs.Semiring.{Semiring, greater, lesser}
use Rattle.table.specs.Circuit.{Shape, Vars, mention, mentions, node, about}
use Rattle.table.specs.Facts.{Among, Ordered}
use Rattle.table.specs.Sound.{is_option, options}
use Rattle.table.proofs.Numbers.{listed_role}
use Rattle.table.proofs.Truths.{about_at}
use Rattle.table.proofs.Upward.{upward_more, upward_length}
use Rattle.passes.specs.Holding.{entry, is_free}
use Rattle.passes.specs.Passes.{Part, no_part, value_at, plain, under, side_of, free_of, either_side, value_of, pair, pairs, sides, work}
use Rattle.passes.specs.NodeReads.{value_in}
use Rattle.passes.specs.Rows.{side_place, under_in, open_in, side_or_zero, sides_by, least_in_row, or_else, row_in, part_in}
use Rattle.passes.specs.Ways.{made, plain_way, side_way}
use Rattle.passes.proofs.Made.{plain_made, side_made}
use Rattle.passes.proofs.Lowest.{filter_both, least_with, least_is}
use Rattle.passes.proofs.Options.{option_there}
use Rattle.passes.proofs.Rowing.{laid, work_length, value_there, side_there, work_push}
use Rattle.passes.specs.Problem.{Problem}

module _ {F : Type 0} (R : Semiring F) (p : Problem F) (stride : ℕ) (wide : stride ≡ 2 * length (options p.roles) + 1) (ps : List (Part F)) where
  abbrev W : List F
  W = work p.roles ps

  map_value : (qs : List (Part F)) (c : ℕ) → get_or (map (λ q. q.value) qs) c R.zero ≡ (get_or qs c (no_part R)).value
  map_value [] c = refl
  map_value (q ∷ qs) zero = refl
  map_value (q ∷ qs) (suc c) = map_value qs c

  values_are : value_in R stride W ≡ value_at R (map (λ q. q.value) ps)
  values_are = fun_ext (λ c. value_there R p.roles stride wide ps c ∙ sym (map_value ps c))

  plain_is : (s : Shape) → made R (plain_way R p) (value_in R stride W) s ≡ plain R p (map (λ q. q.value) ps) s
  plain_is s = ap (λ f. made R (plain_way R p) f s) values_are ∙ sym (plain_made R p (map (λ q. q.value) ps) s)

  module _ (j : ℕ) (short : j < length (options p.roles)) (b : Bool) where
    abbrev v : ℕ
    v = get_or (options p.roles) j 0

    under_is : under_in R p stride W v (side_place j b) ≡ under R p ps b v
    under_is = fun_ext (λ c. ap₂ (λ x y. cond (about p.circuit c v) (lesser R x y) x) (value_there R p.roles stride wide ps c) (side_there R p.roles stride wide ps c j b short))

    side_is : (s : Shape) → made R (side_way R p.roles b) (under_in R p stride W v (side_place j b)) s ≡ side_of R p ps s b v
    side_is s = ap (λ f. made R (side_way R p.roles b) f s) under_is ∙ sym (side_made R p ps b v s)

  sides_same : (s : Bool → ℕ → ℕ → F) (q : Part F) (a : ℕ) (vs : List ℕ)
      → ((j : ℕ) (b : Bool) → j < length vs → s b (get_or vs j 0) (side_place (a + j) b) ≡ q.side b (get_or vs j 0)) → sides_by s a vs ≡ sides q vs
  sides_same s q a [] e = refl
  sides_same s q a (v ∷ vs) e =
      let z : a + 0 ≡ a = omega arith in
      let on : s true v (side_place a true) ≡ q.side true v = rw z at (e 0 true (omega arith)) in
      let off : s false v (side_place a false) ≡ q.side false v = rw z at (e 0 false (omega arith)) in
      let rest : sides_by s (a + 1) vs ≡ sides q vs = sides_same s q (a + 1) vs (λ j b l. let z : a + 1 + j ≡ a + suc j = omega arith in rw z (e (suc j) b (omega arith))) in
      λ i. on i ∷ off i ∷ rest i

  module _ (ordered : Ordered p.circuit) (i : ℕ) where
    abbrev part : Part F
    part = pair R p ps (node p.circuit i)

    mentioned : (v : ℕ) → about p.circuit i v ≡ mention (mentions p.circuit) (node p.circuit i) v
    mentioned v = ap (λ (m : Vars). m v) (about_at p.circuit ordered i)

    side_here : (j : ℕ) (b : Bool) → j < length (options p.roles) → side_or_zero R p stride W i b (get_or (options p.roles) j 0) (side_place j b) ≡ part.side b (get_or (options p.roles) j 0)
    side_here j b short =
        let v : ℕ = get_or (options p.roles) j 0 in
        ap₂ (λ m x. cond (is_free (entry p.holds v) && m) x R.zero) (mentioned v) (side_is j short b (node p.circuit i))
        ∙ sym (ap (λ o. cond (o && (is_free (entry p.holds v) && mention (mentions p.circuit) (node p.circuit i) v)) (side_of R p ps (node p.circuit i) b v) R.zero) (option_there p.roles j short).1)

    row_is : row_in R p stride W i (options p.roles) ≡ sides part (options p.roles)
    row_is = sides_same (side_or_zero R p stride W i) part 0 (options p.roles) (λ j b l. let z : 0 + j ≡ j = omega arith in rw z (side_here j b l))

    abbrev row : List F
    row = sides part (options p.roles)

    -- an option that is free and mentioned has its two values
    either_there : (v : ℕ) → Among v (options p.roles) → open_in p i v ≡ true → greater R (part.side true v) (part.side false v) ≡ either_side R p ps (node p.circuit i) v
    either_there v m t =
        let unheld : (is_option p.roles v && (is_free (entry p.holds v) && mention (mentions p.circuit) (node p.circuit i) v)) ≡ true =
        and_from _ _ (listed_role p.roles true v m).1 (ap (λ o. is_free (entry p.holds v) && o) (sym (mentioned v)) ∙ t) in
        ap₂ (greater R) (cond-true _ _ _ unheld) (cond-true _ _ _ unheld)

    free_are : filter (open_in p i) (options p.roles) ≡ free_of R p (node p.circuit i)
    free_are =
        ap (λ (m : Vars). filter (λ v. is_free (entry p.holds v) && m v) (options p.roles)) (about_at p.circuit ordered i)
        ∙ sym (filter_both (mention (mentions p.circuit) (node p.circuit i)) (λ v. is_free (entry p.holds v)) (options p.roles))

    value_by_list : (fs : List ℕ) → or_else (least_with R None (map (either_side R p ps (node p.circuit i)) fs)) (made R (plain_way R p) (value_in R stride W) (node p.circuit i)) ≡ value_of R p ps (node p.circuit i) fs
    value_by_list [] = plain_is (node p.circuit i)
    value_by_list (v ∷ vs) = refl

    value_is : or_else (least_in_row R (open_in p i) row None (options p.roles)) (made R (plain_way R p) (value_in R stride W) (node p.circuit i)) ≡ part.value
    value_is =
        ap (λ o. or_else o (made R (plain_way R p) (value_in R stride W) (node p.circuit i)))
        (least_is R part (open_in p i) (either_side R p ps (node p.circuit i)) None (options p.roles) either_there)
        ∙ value_by_list (filter (open_in p i) (options p.roles))
        ∙ ap (value_of R p ps (node p.circuit i)) free_are

    pub part_is : part_in R p stride W i (options p.roles) ≡ part.value ∷ sides part (options p.roles)
    part_is =
        ap (λ r. or_else (least_in_row R (open_in p i) r None (options p.roles)) (made R (plain_way R p) (value_in R stride W) (node p.circuit i)) ∷ r) row_is ∙ ap (λ x. x ∷ row) value_is

module _ {F : Type 0} (R : Semiring F) (p : Problem F) (start : List F) (stride : ℕ) where
  -- the work table with the parts of the first i nodes
  abbrev so_far : ℕ → List F
  so_far i = work p.roles (take i (pairs R p)) ++ drop (i * stride) start

  -- what a loop over the n nodes keeps
  pub record Parted (n : ℕ) (now : List F) (i : ℕ) : Type 0 where
    pub parts : now ≡ so_far i
    pub many : n ≡ length p.circuit

  module _ (wide : stride ≡ 2 * length (options p.roles) + 1) (ordered : Ordered p.circuit) where
    length_front : (i : ℕ) → i ≤ length p.circuit → length (work p.roles (take i (pairs R p))) ≡ i * stride
    length_front i l =
        work_length R p.roles stride wide (take i (pairs R p))
        ∙ ap (λ n. n * stride) (length-take-le i (pairs R p) (omega (arith, upward_length (pair R p) p.circuit)))

    -- one more part, written between the parts before it and the rest
    pub parts_more : (i : ℕ) → i < length p.circuit → (now front part back : List F) → now ≡ so_far i → front ≡ take (i * stride) now → back ≡ drop (i * stride) now
        → part ≡ part_in R p stride front i (options p.roles) → front ++ (part ++ drop stride back) ≡ so_far (i + 1)
    parts_more i l now front part back e before behind is =
        let ps : List (Part F) = take i (pairs R p) in
        let A : List F = work p.roles ps in
        let q : Part F = pair R p ps (node p.circuit i) in
        let k : ℕ = i * stride in
        let long : length A ≡ k = length_front i (omega arith) in
        let first : front ≡ A = before ∙ ap (take k) e ∙ take_at A (drop k start) k long in
        let here : part ≡ laid R p.roles q = is ∙ ap (λ d. part_in R p stride d i (options p.roles)) first ∙ part_is R p stride wide ps ordered i in
        let next : k + stride ≡ (i + 1) * stride = omega (arith, add-mul i 1 stride, one-mul stride) in
        let rest : drop stride back ≡ drop ((i + 1) * stride) start =
        ap (drop stride) (behind ∙ ap (drop k) e ∙ drop_at A (drop k start) k long) ∙ drop-drop stride k start ∙ ap (λ n. drop n start) next in
        (λ j. first j ++ (here j ++ rest j))
        ∙ sym (append_assoc A (laid R p.roles q) (drop ((i + 1) * stride) start))
        ∙ ap (λ f. f ++ drop ((i + 1) * stride) start) (sym (work_push R p.roles ps q) ∙ ap (work p.roles) (sym (upward_more (pair R p) p.circuit i l)))

  pub parted_all : (n i : ℕ) (now : List F) → Parted n now i → i ≤ n → n ≤ i → now ≡ work p.roles (pairs R p) ++ drop (length p.circuit * stride) start
  parted_all n i now kept l m =
      let q : i ≡ length p.circuit = let e = kept.many in omega arith in
      kept.parts
      ∙ ap₂ (λ xs k. work p.roles xs ++ drop (k * stride) start) (take_all i (pairs R p) (omega (arith, upward_length (pair R p) p.circuit))) q
