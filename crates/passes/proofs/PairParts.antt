-- A node's part in the pair pass, from those of its children.
use Rattle.std.proofs.Common.{◌≡◌, ℕ, ◌-◌, Bool, true, false, cond, ◌&&◌, List, [], ◌∷◌, map, length, get_or, sym, refl, ap, ◌∙◌, subst, inl, inr}
use lib.ListN.{get_or-map}
use Rattle.std.specs.List.{AllByRecursion}
use Rattle.std.proofs.lemmas.Bool.{and_from, cond-true}
use Rattle.kinds.specs.Semiring.{Semiring, Laws, greater, lesser}
use Rattle.kinds.proofs.Ranks.{Upto, upto_refl, upto_greater, greater_upto, lesser_upto, upto_lesser}
use Rattle.table.specs.Circuit.{Shape, bottom, Vars, mention, mentions, node, about}
use Rattle.table.specs.Facts.{Among, Ordered}
use Rattle.table.specs.Sound.{is_option, options, children}
use Rattle.table.proofs.Listed.{all_among}
use Rattle.table.proofs.Numbers.{listed_role}
use Rattle.table.proofs.Truths.{about_at}
use Rattle.table.proofs.Upward.{upward_at, root_last}
use Rattle.passes.specs.Holding.{entry, is_free, free}
use Rattle.passes.specs.Passes.{Part, no_part, least, under, side_of, free_of, either_side, value_of, pair, pairs, bound}
use Rattle.passes.proofs.Filters.{kept, filter_empty}
use Rattle.passes.specs.Ways.{made, plain_way, side_way}
use Rattle.passes.proofs.Made.{made_same, plain_made, side_made}
-- v is a free option that node i mentions
use Rattle.passes.specs.Problem.{Problem}

pub record FreeIn {F : Type 0} (p : Problem F) (i v : ℕ) : Type 0 where
  pub of_option : is_option p.roles v ≡ true
  pub of_free : is_free (entry p.holds v) ≡ true
  pub of_node : about p.circuit i v ≡ true

cond_same : {A : Type 0} (t : Bool) (x : A) → cond t x x ≡ x
cond_same true x = refl
cond_same false x = refl

-- what holds of each image holds of each element of the list of images
mapped : {A B : Type 0} (P : B → Type 0) (f : A → B) (xs : List A) → AllByRecursion (λ x. P (f x)) xs → AllByRecursion P (map f xs)
mapped P f [] h = tt
mapped P f (x ∷ xs) h = (h.0, mapped P f xs h.1)

module _ {F : Type 0} {R : Semiring F} (laws : Laws R) where
  least_upto : (x : F) (ys : List F) → Upto R (least R x ys) x
  least_upto x [] = upto_refl laws x
  least_upto x (y ∷ ys) = laws.trans _ _ _ (least_upto (lesser R x y) ys) (lesser_upto laws x y)

  upto_least : (c x : F) (ys : List F) → Upto R c x → AllByRecursion (Upto R c) ys → Upto R c (least R x ys)
  upto_least c x [] first rest = first
  upto_least c x (y ∷ ys) first rest = upto_least c (lesser R x y) ys (upto_lesser laws x y c first rest.0) rest.1

module _ {F : Type 0} (R : Semiring F) (p : Problem F) where
  -- where no free option is mentioned
  value_made : (done : List (Part F)) (s : Shape) → value_of R p done s [] ≡ made R (plain_way R p) (λ c. (get_or done c (no_part R)).value) s
  value_made done s =
      plain_made R p (map (λ part. part.value) done) s
      ∙ made_same R (plain_way R p) _ _ s (λ c _. get_or-map (λ (part : Part F). part.value) done c (no_part R))

  module _ (xs ys : List (Part F)) (s : Shape) (alike : (c : ℕ) → Among c (children s) → get_or xs c (no_part R) ≡ get_or ys c (no_part R)) where
    side_by_values : (b : Bool) (v : ℕ) → side_of R p xs s b v ≡ side_of R p ys s b v
    side_by_values b v =
        side_made R p xs b v s
        ∙ made_same R (side_way R p.roles b) _ _ s (λ c m. ap (λ (part : Part F). cond (about p.circuit c v) (lesser R part.value (part.side b v)) part.value) (alike c m))
        ∙ sym (side_made R p ys b v s)

    value_by_values : (vs : List ℕ) → value_of R p xs s vs ≡ value_of R p ys s vs
    value_by_values [] =
        value_made xs s ∙ made_same R (plain_way R p) _ _ s (λ c m. ap (λ (part : Part F). part.value) (alike c m)) ∙ sym (value_made ys s)
    value_by_values (v ∷ vs) = λ j.
        let either : ℕ → F = λ u. greater R (side_by_values true u j) (side_by_values false u j) in least R (either v) (map either vs)

    pair_by_values : pair R p xs s ≡ pair R p ys s
    pair_by_values = λ j. record {
      value = value_by_values (free_of R p s) j;
      side = λ b v. cond (is_option p.roles v && (is_free (entry p.holds v) && mention (mentions p.circuit) s v)) (side_by_values b v j) R.zero;
    }

  pair_bottom : (done : List (Part F)) → pair R p done bottom ≡ no_part R
  pair_bottom done = λ j. record {
    value = ap (value_of R p done bottom) (filter_empty (λ _. false) (free p.roles p.holds) (λ _ _. refl)) j;
    side = λ b v. cond_same (is_option p.roles v && (is_free (entry p.holds v) && false)) R.zero j;
  }

module _ {F : Type 0} (R : Semiring F) (p : Problem F) where
  -- node i's part, its value, and its value under v on (or off)
  abbrev pub part : ℕ → Part F
  part i = get_or (pairs R p) i (no_part R)

  abbrev pub worth : ℕ → F
  worth i = (part i).value

  abbrev pub beneath : Bool → ℕ → ℕ → F
  beneath b v = under R p (pairs R p) b v

  -- what the plain way, and a side's way, make of node i
  abbrev pub plain_here : ℕ → F
  plain_here i = made R (plain_way R p) worth (node p.circuit i)

  abbrev pub side_here : ℕ → Bool → ℕ → F
  side_here i b v = made R (side_way R p.roles b) (beneath b v) (node p.circuit i)

  -- node i's on (or off) value for v, and the greater of the two
  abbrev sided : ℕ → Bool → ℕ → F
  sided i = side_of R p (pairs R p) (node p.circuit i)

  abbrev either : ℕ → ℕ → F
  either i = either_side R p (pairs R p) (node p.circuit i)

  -- node i's value, where it mentions the free options vs
  abbrev valued : ℕ → List ℕ → F
  valued i = value_of R p (pairs R p) (node p.circuit i)

  sided_here : (i : ℕ) (b : Bool) (v : ℕ) → sided i b v ≡ side_here i b v
  sided_here i b v = side_made R p (pairs R p) b v (node p.circuit i)

  valued_here : (i : ℕ) → valued i [] ≡ plain_here i
  valued_here i = value_made R p (pairs R p) (node p.circuit i)

  pub bound_last : bound R p ≡ worth (length p.circuit - 1)
  bound_last = ap (λ (part : Part F). part.value) (root_last (pair R p) (no_part R) p.circuit)

  module _ (ordered : Ordered p.circuit) (i : ℕ) where
    part_at : part i ≡ pair R p (pairs R p) (node p.circuit i)
    part_at = upward_at (pair R p) (no_part R)
        (record { by_values = pair_by_values R p; at_bottom = pair_bottom R p }) p.circuit ordered i

    about_here : (v : ℕ) → about p.circuit i v ≡ mention (mentions p.circuit) (node p.circuit i) v
    about_here v = ap (λ (m : Vars). m v) (about_at p.circuit ordered i)

    -- the node is s, which mentions v
    pub free_mentioned : (v : ℕ) → FreeIn p i v → (s : Shape) → node p.circuit i ≡ s → mention (mentions p.circuit) s v ≡ true
    free_mentioned v f s is = subst (λ t. mention (mentions p.circuit) t v ≡ true) is (sym (about_here v) ∙ f.of_node)

    free_in : (v : ℕ) → Among v (free_of R p (node p.circuit i)) → FreeIn p i v
    free_in v m =
        let here = kept (mention (mentions p.circuit) (node p.circuit i)) v (free p.roles p.holds) m in
        let untaken = kept (λ x. is_free (entry p.holds x)) v (options p.roles) here.0 in
        record { of_option = (listed_role p.roles true v untaken.0).1; of_free = untaken.1; of_node = about_here v ∙ here.1 }

    -- the side of a free option that the node mentions
    pub side_is : (v : ℕ) → FreeIn p i v → (b : Bool) → (part i).side b v ≡ side_here i b v
    side_is v f b =
        ap (λ (part : Part F). part.side b v) part_at
        ∙ cond-true _ _ R.zero (and_from _ _ f.of_option (and_from _ _ f.of_free (free_mentioned v f (node p.circuit i) refl)))
        ∙ sided_here i b v

    -- a node that mentions no free option
    pub value_plain : ((v : ℕ) → Among v (free p.roles p.holds) → about p.circuit i v ≡ false) → worth i ≡ plain_here i
    value_plain absent =
        ap (λ (part : Part F). part.value) part_at
        ∙ ap (valued i) (filter_empty (mention (mentions p.circuit) (node p.circuit i)) (free p.roles p.holds) (λ v m. sym (about_here v) ∙ absent v m))
        ∙ valued_here i

    -- what holds of the plain value, and of the least over free options that the node mentions, holds of its value
    by_value : (P : F → Type 0) → P (plain_here i)
        → ((v : ℕ) (vs : List ℕ) → ((u : ℕ) → Among u (v ∷ vs) → FreeIn p i u) → P (least R (either i v) (map (either i) vs))) → P (worth i)
    by_value P plainly freely = subst (λ (part : Part F). P part.value) (sym part_at) (by (free_of R p (node p.circuit i)) free_in)
      where
        by : (vs : List ℕ) → ((u : ℕ) → Among u vs → FreeIn p i u) → P (valued i vs)
        by [] f = subst P (sym (valued_here i)) plainly
        by (v ∷ vs) f = freely v vs f

    module _ (laws : Laws R) (c : F) where
      pub value_above : Upto R c (plain_here i) → ((v : ℕ) → FreeIn p i v → (b : Bool) × Upto R c (side_here i b v)) → Upto R c (worth i)
      value_above plainly freely = by_value (Upto R c) plainly (λ v vs f.
          upto_least laws c (either i v) (map (either i) vs) (each v (f v (inl refl))) (mapped (Upto R c) (either i) vs (all_among _ vs (λ u m. each u (f u (inr m))))))
        where
          each : (v : ℕ) → FreeIn p i v → Upto R c (either i v)
          each v f =
              let side = freely v f in
              laws.trans _ _ _ (subst (Upto R c) (sym (sided_here i side.0 v)) side.1) (upto_greater laws (λ b. sided i b v) side.0)

      pub value_below : Upto R (plain_here i) c → ((v : ℕ) → FreeIn p i v → (b : Bool) → Upto R (side_here i b v) c) → Upto R (worth i) c
      value_below plainly freely = by_value (λ x. Upto R x c) plainly (λ v vs f.
          let side : (b : Bool) → Upto R (sided i b v) c = λ b. subst (λ x. Upto R x c) (sym (sided_here i b v)) (freely v (f v (inl refl)) b) in
          laws.trans _ _ _ (least_upto laws (either i v) (map (either i) vs)) (greater_upto laws _ _ c (side true) (side false)))
