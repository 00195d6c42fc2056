-- Items that were replaced, put back in their places.
use Rattle.std.specs.Prelude.{List, [], ◌∷◌}
use Rattle.ob_watch.specs.declared.item.Item.{Item}
use Rattle.ob_watch.specs.Items.{put_over}

-- the last that was replaced is put back first
abbrev pub restored : List Item → List Item → List Item
restored [] items = items
restored (x ∷ xs) items = put_over x (restored xs items)
