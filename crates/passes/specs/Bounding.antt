-- What the passes are for: the weighted model count, and bounds on it.
use Rattle.std.specs.Prelude.{◌≡◌, ℕ, true, false, get_or, slice_index_or}
use Rattle.kinds.specs.Semiring.{Semiring}
use Rattle.table.specs.Circuit.{World, root, about}
use Rattle.table.specs.Facts.{Among}
use Rattle.passes.specs.Holding.{Keeps, Complete, free}
use Rattle.passes.specs.Passes.{no_part, counts, plains, plain_bound, pairs, bound}
use Rattle.passes.specs.Problem.{Problem, figure_of, held_figure}

module _ {F : Type 0} (R : Semiring F) (p : Problem F) where
  -- the counting pass's root value is the selection's figure
  abbrev pub CountsFigure : Type 0
  CountsFigure = (w : World) → root R.zero (counts R p w) ≡ figure_of R p w

  -- no allowed selection has a figure that ranks above f
  abbrev pub NoHigher : (World → Type 0) → F → Type 0
  NoHigher Allowed f = (w : World) → Allowed w → R.upto (figure_of R p w) f ≡ true

  -- f ranks no lower than the figure of every selection that keeps the holds
  abbrev pub Covers : F → Type 0
  Covers f = NoHigher (Keeps p.roles p.holds) f

  -- f ranks no higher than the plain bound
  abbrev pub Tightens : F → Type 0
  Tightens f = R.upto f (plain_bound R p) ≡ true

  -- where every option is held, f ranks no higher than the figure of the selection held
  abbrev pub Meets : F → Type 0
  Meets f = Complete p.roles p.holds → R.upto f (held_figure R p) ≡ true

  -- a node that mentions no free option has its plain value in the pair pass
  abbrev pub PlainWhereHeld : Type 0
  PlainWhereHeld =
      (i : ℕ) → ((v : ℕ) → Among v (free p.roles p.holds) → about p.circuit i v ≡ false) →
      (get_or (pairs R p) i (no_part R)).value ≡ slice_index_or (plains R p) i R.zero

  -- f is the bound: no selection that keeps the holds ranks higher, nor does f rank above the plain bound
  pub record Bounded (f : F) : Type 0 where
    pub is_bound : f ≡ bound R p
    pub covers : Covers f
    pub tight : Tightens f
