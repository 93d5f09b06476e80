-- The key and the annotation of a request. Assumes nothing.
use Rattle.keys.specs.declared.key.Key.{Key}
use Rattle.keys.specs.declared.key.Key.TheVariants as key
use Rattle.requests.specs.declared.annotation.Finalized.TheVariants.{ByHeight, ByRound}
use Rattle.requests.specs.declared.annotation.Annotation.{Annotation}
use Rattle.requests.specs.declared.annotation.Annotation.TheVariants as annotation
use Rattle.requests.specs.declared.request.RequestKind.{RequestKind}
use Rattle.requests.specs.declared.request.RequestKind.TheVariants.{Notarized, Finalized, Untrusted, Certified, FinalizedByHeight, FinalizedByRound}
use Rattle.requests.specs.declared.request.Request.{Request}

abbrev pub kind_key : {D : Type 0} → RequestKind D → Key D
kind_key (Notarized r) = key.Notarized r
kind_key (Finalized h) = key.Finalized h
kind_key (Untrusted d h) = key.Block d
kind_key (Certified d h) = key.Block d
kind_key (FinalizedByHeight d h) = key.Block d
kind_key (FinalizedByRound d r) = key.Block d

abbrev pub kind_annotation : {D : Type 0} → RequestKind D → Annotation
kind_annotation (Notarized r) = annotation.Notarization r
kind_annotation (Finalized h) = annotation.Finalized (ByHeight h)
kind_annotation (Untrusted d h) = annotation.Untrusted h
kind_annotation (Certified d h) = annotation.Certified h
kind_annotation (FinalizedByHeight d h) = annotation.Finalized (ByHeight h)
kind_annotation (FinalizedByRound d r) = annotation.Finalized (ByRound r)

abbrev pub key_of : {D : Type 0} → Request D → Key D
key_of r = kind_key r.kind

abbrev pub annotation_of : {D : Type 0} → Request D → Annotation
annotation_of r = kind_annotation r.kind
