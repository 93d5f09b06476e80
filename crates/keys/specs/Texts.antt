-- How what a refusal hands back is printed. Assumes nothing.
use Rattle.std.specs.Prelude.{ℕ, List, ◌++◌, codes, decimal}
use Rattle.keys.specs.declared.error.Layer.{Layer}
use Rattle.keys.specs.declared.error.Layer.TheVariants as layer
use Rattle.keys.specs.declared.error.Field.{Field}
use Rattle.keys.specs.declared.error.Field.TheVariants.{Tag, Digest, Height, Epoch, View}
use Rattle.keys.specs.declared.error.Location.{Location}
use Rattle.keys.specs.declared.error.Location.TheVariants.{InField, AtTag}

abbrev pub layer_text : Layer → List ℕ
layer_text layer.Number = codes "number"
layer_text layer.Key = codes "key"

abbrev pub field_text : Field → List ℕ
field_text Tag = codes "tag"
field_text Digest = codes "digest"
field_text Height = codes "height"
field_text Epoch = codes "epoch"
field_text View = codes "view"

abbrev pub location_text : Location → List ℕ
location_text (InField l f place) = codes "layer " ++ (layer_text l ++ (codes ", field " ++ (field_text f ++ (codes ", place " ++ decimal place))))
location_text (AtTag l tag place) = codes "layer " ++ (layer_text l ++ (codes ", tag " ++ (decimal tag ++ (codes ", place " ++ decimal place))))
