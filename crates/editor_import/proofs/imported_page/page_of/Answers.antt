use Rattle.std.proofs.Common.{◌≡◌, ◌∙◌, ap, sym, subst, string_bytes}
use Rattle.std.specs.Prelude.{IsUtf8, MatchOption}
use Rattle.editor_import.specs.Pages.{IsPut, WhyNot}
use Rattle.editor_import.specs.Routes.{IsRoute}
use Rattle.editor_import.specs.Verbatim.{verbatim, Shows}
use Rattle.editor_import.proofs.imported_page.page_of.Goals as goal

pub returns-in_default : goal.returns-in_default
returns-in_default c = λ text. c.in_default.ensures.cases.0 (subst IsUtf8 (sym c.deref.ensures.value) text)

pub returns-in-Some : goal.returns-in-Some
returns-in-Some c =
    let page = c.in_ok-page.page in
    let is_text : c.in-Ok.text.now ≡ c.args.file.now.bytes.items = c.in-Ok.ensures.cases.0 ∙ c.deref.ensures.value in (
      page,
      record {
        at_route = subst (IsRoute (string_bytes page.path)) c.as_str.ensures.value c.in_ok-page.ensures.route;
        template_is = c.in_ok-page.ensures.template ∙ ap verbatim is_text;
        shows = subst (Shows (string_bytes page.template)) is_text c.in_ok-page.ensures.shows;
      },
      subst (λ o. MatchOption o (IsPut page) (WhyNot page)) c.in-Some.is c.in_ok-page_fault.ensures,
    )
