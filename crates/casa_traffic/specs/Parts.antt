-- inner contracts: texts that are written part by part
use Rattle.std.specs.Prelude.{List, flat_map, decimal}
use Rattle.casa_filing.specs.Text.{Text}
use Rattle.casa_traffic.specs.declared.telling.Part.{Part}
use Rattle.casa_traffic.specs.declared.telling.Part.TheVariants.{Words, Number}

abbrev pub part_text : Part → Text
part_text (Words text) = text.now
part_text (Number n) = decimal n

abbrev pub parts_text : List Part → Text
parts_text parts = flat_map part_text parts
