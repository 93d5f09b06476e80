-- The order of annotations: by the case, in the order of the declaration, then by content. Assumes nothing.
use Rattle.std.specs.Prelude.{ℕ, Bool, false, cond, ◌==◌, nat_lt}
use Rattle.types.specs.Rounds.{round_less}
use Rattle.requests.specs.declared.annotation.Finalized.{Finalized}
use Rattle.requests.specs.declared.annotation.Finalized.TheVariants.{ByHeight, ByRound}
use Rattle.requests.specs.declared.annotation.Annotation.{Annotation}
use Rattle.requests.specs.declared.annotation.Annotation.TheVariants as annotation

abbrev pub case_of : Finalized → ℕ
case_of (ByHeight h) = 0
case_of (ByRound r) = 1

-- of two in the same case, whether the first has the lesser content
abbrev pub finalized_content_less : Finalized → Finalized → Bool
finalized_content_less (ByHeight a) (ByHeight b) = nat_lt a.0 b.0
finalized_content_less (ByHeight a) (ByRound b) = false
finalized_content_less (ByRound a) (ByHeight b) = false
finalized_content_less (ByRound a) (ByRound b) = round_less a b

abbrev pub finalized_less : Finalized → Finalized → Bool
finalized_less a b = cond (case_of a == case_of b) (finalized_content_less a b) (nat_lt (case_of a) (case_of b))

abbrev pub rank_of : Annotation → ℕ
rank_of (annotation.Notarization x) = 0
rank_of (annotation.Untrusted x) = 1
rank_of (annotation.Certified x) = 2
rank_of (annotation.Finalized x) = 3

abbrev pub annotation_content_less : Annotation → Annotation → Bool
annotation_content_less (annotation.Notarization x) (annotation.Notarization y) = round_less x y
annotation_content_less (annotation.Notarization x) (annotation.Untrusted y) = false
annotation_content_less (annotation.Notarization x) (annotation.Certified y) = false
annotation_content_less (annotation.Notarization x) (annotation.Finalized y) = false
annotation_content_less (annotation.Untrusted x) (annotation.Notarization y) = false
annotation_content_less (annotation.Untrusted x) (annotation.Untrusted y) = nat_lt x.0 y.0
annotation_content_less (annotation.Untrusted x) (annotation.Certified y) = false
annotation_content_less (annotation.Untrusted x) (annotation.Finalized y) = false
annotation_content_less (annotation.Certified x) (annotation.Notarization y) = false
annotation_content_less (annotation.Certified x) (annotation.Untrusted y) = false
annotation_content_less (annotation.Certified x) (annotation.Certified y) = nat_lt x.0 y.0
annotation_content_less (annotation.Certified x) (annotation.Finalized y) = false
annotation_content_less (annotation.Finalized x) (annotation.Notarization y) = false
annotation_content_less (annotation.Finalized x) (annotation.Untrusted y) = false
annotation_content_less (annotation.Finalized x) (annotation.Certified y) = false
annotation_content_less (annotation.Finalized x) (annotation.Finalized y) = finalized_less x y

abbrev pub annotation_less : Annotation → Annotation → Bool
annotation_less a b = cond (rank_of a == rank_of b) (annotation_content_less a b) (nat_lt (rank_of a) (rank_of b))
