-- Annotations are in a total order. Assumes nothing.
use Rattle.std.specs.Prelude.{◌≡◌, true, false}
use Rattle.std.proofs.Common.{rules}
use Rattle.order.specs.Orders.{Total}
use Rattle.order.specs.Totals.{asymmetric, connected, tagged_total}
use Rattle.types.proofs.Ordered.{height_total, round_total}
use Rattle.requests.specs.declared.annotation.Annotation.{Annotation}
use Rattle.requests.specs.Annotations.{finalized_less, rank_of, annotation_content_less, annotation_less}

finalized_total : Total finalized_less
finalized_total = search rules

annotation_asym : (a b : Annotation) → annotation_content_less a b ≡ true → annotation_content_less b a ≡ false
annotation_asym = search (asymmetric height_total, asymmetric round_total, asymmetric finalized_total, rules)

annotation_conn : (a b : Annotation) → rank_of a ≡ rank_of b → annotation_content_less a b ≡ false → annotation_content_less b a ≡ false → a ≡ b
annotation_conn = search (connected height_total, connected round_total, connected finalized_total, rules)

annotation_trans : (a b c : Annotation) → annotation_content_less a b ≡ true → annotation_content_less b c ≡ true → annotation_content_less a c ≡ true
annotation_trans = search (height_total.transitive, round_total.transitive, finalized_total.transitive, rules)

pub annotation_total : Total annotation_less
annotation_total = tagged_total rank_of annotation_content_less annotation_asym annotation_conn annotation_trans
