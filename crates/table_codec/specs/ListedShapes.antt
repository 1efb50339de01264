-- What a component whose values are listed can be at a point.
use Rattle.osek_standard.specs.declared.{app.App.{App}, point.Point.{Point}}
use Rattle.abstract_state.specs.declared.value.Component.{Component}
use Rattle.table_codec.specs.{declared.listed_shape.ListedShape.{ListedShape}, Shapes.{IsShape, shaped}, SourceShapes.{IsSourceShape, shaped_source}}
use Rattle.table_codec.specs.declared.listed_shape.ListedShape.TheVariants as shape

abbrev pub IsListedShape : App → ListedShape → Type 0
IsListedShape app (shape.Task x) = IsShape app x
IsListedShape app (shape.Source x) = IsSourceShape app x

abbrev pub point_of : ListedShape → Point
point_of (shape.Task x) = x.point
point_of (shape.Source x) = x.point

abbrev pub component_of : ListedShape → Component
component_of (shape.Task x) = shaped x
component_of (shape.Source x) = shaped_source x
