use Rattle.std.proofs.Common.{filter_map, map}
use Rattle.std.specs.Arc.{arc_value}
use Rattle.time_and_sales.specs.Lent.{all_sales}
use Rattle.bars.specs.Bars.{all_bars}
use Rattle.bars.specs.Steps.{united}
use Rattle.buckets.specs.Products.{by_place}
use Rattle.planning.specs.AllBuckets.{listing_of, table_of}
use Rattle.planning.proofs.listed_text.put_text_alone.Given as goal

-- the names are those of what the products list
abbrev pub ghosts-put_named_alone-J-AllSales : goal.ghosts-put_named_alone-J-AllSales
ghosts-put_named_alone-J-AllSales g a = record { sales = by_place (all_sales (filter_map listing_of (map arc_value a.products.now))) }

abbrev pub ghosts-put_named_alone-J-AllBars : goal.ghosts-put_named_alone-J-AllBars
ghosts-put_named_alone-J-AllBars g a = record { bars = united (all_bars (filter_map table_of (map arc_value a.products.now))) }
