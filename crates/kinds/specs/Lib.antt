pub mod Semiring
pub mod Texts
pub mod Tallies
pub mod Peaks
-- Proofs that a kind's ghost members name: these may name nothing in proofs/.
pub mod Saturate
pub mod TextLaws
pub mod TallyLaws
pub mod PeakLaws
