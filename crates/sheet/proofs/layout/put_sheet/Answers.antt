-- `sheet::layout::put_sheet` meets its contract: the only page, or a page more each turn. Assumes nothing.
use Rattle.std.proofs.Common.{rules, tests, refl, ◌∙◌}
use Rattle.sheet.proofs.LayoutPaths.{only_given, only_put, pages_none, pages_done, pages_given, pages_more}
use Rattle.sheet.proofs.layout.put_sheet.Goals as goal

pub page-requires : goal.page-requires
page-requires c = only_given _ c.page_count-pages.ensures c.requires.few (search (rules, tests)) _ c.requires.fits

pub returns-then-is_empty : goal.returns-then-is_empty
returns-then-is_empty c =
    let done = only_put _ c.page_count-pages.ensures c.requires.few (search (rules, tests)) _ c.page.ensures.put in
    search (rules, done)

pub loop-i-init : goal.loop-i-init
loop-i-init c =
    (search rules, pages_none _ c.page_count-pages.ensures c.requires.few _ c.requires.fits refl (search (rules, tests)) _ _ (search rules) (search rules))

pub page-requires-in-loop-i : goal.page-requires-in-loop-i
page-requires-in-loop-i c =
    let steps = c.in-Some.ensures.steps in
    let left = c.loop-i.invariant in
    rw steps.1 (pages_given _ c.page_count-pages.ensures c.requires.few _ c.requires.fits _ _ _ left.1 _ _ steps.0.1.0 (rw left.0 at steps.0.1.1) steps.0.1.2)

pub loop-i-preserved : goal.loop-i-preserved
loop-i-preserved c =
    let steps = c.in-Some.ensures.steps in
    let left = c.loop-i.invariant in
    let put = rw steps.1 at c.page-in-loop-i.ensures in
    let more = pages_more _ c.page_count-pages.ensures c.requires.few _ c.requires.fits _ _ _ left.1 _ _ steps.0.1.0 (rw left.0 at steps.0.1.1) steps.0.1.2 in
    (steps.0.0 ∙ left.0, rw steps.2 (more put))

pub returns : goal.returns
returns c =
    let done = pages_done _ c.page_count-pages.ensures c.requires.few _ c.requires.fits _ _ _ c.loop-i.invariant.1 c.in-None.ensures.steps.0.1.0 in
    search (rules, done)
