-- `query_listing::write_listing` meets its contract: the outcome of a build with room for every table is the listing's, and it is a refusal or a table.
use mathlib.Core.Path.{sym, ◌∙◌, ap}
use native.Mathlib.Omega.{arith}
use lib.Seq.{length-take-le}
use Rattle.theory.specs.Listing.{refused_line, table_listing}
use Rattle.query_listing.proofs.TableLaws.{Shown, refused_listing, table_listing_lem, printed}
use Rattle.query_listing.proofs.write_listing.Goals.{In-Ok}
use Rattle.query_listing.proofs.write_listing.Goals as goal

-- what is known of the table that was built
shown : (c : In-Ok) → Shown c.args.query.now c.build.new.output c.in-Ok.length
shown c =
    let e = c.in-Ok.ensures in table_listing_lem c.args.query.now c.args.work.now c.requires e.value e.output_after

pub slice_bounds-table-end : goal.slice_bounds-table-end
slice_bounds-table-end c = (shown (goal.at.slice_bounds-table-end c).In-Ok).fits

pub slice_bounds-new-end : goal.slice_bounds-new-end
slice_bounds-new-end c =
    sym (length-take-le c.in-Ok.length _ (shown (goal.at.slice_bounds-new-end c).In-Ok).fits)

pub new-requires : goal.new-requires
new-requires c = (shown (goal.at.new-requires c).In-Ok).form

pub returns-in-Ok : goal.returns-in-Ok
returns-in-Ok c =
    printed (ap table_listing c.new.ensures ∙ (shown (goal.at.returns-in-Ok c).In-Ok).same) (omega arith) c.list.ensures

pub returns-in-Err : goal.returns-in-Err
returns-in-Err c =
    printed (ap refused_line c.from.ensures ∙ refused_listing c.args.query.now c.args.work.now c.requires c.in-Err.refusal c.in-Err.ensures.value) (omega arith) c.refused.ensures
