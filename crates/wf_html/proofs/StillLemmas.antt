-- The head of a page is the opening, a style and its end.
use Rattle.std.proofs.Common.{◌-◌, length, take, drop, refl}
use Rattle.wf_html.specs.Still.{IsHead, opening, style_end}
use Rattle.wf_html.specs.Tags.{open_text}
use Rattle.wf_html.specs.declared.tag.Tag.{Tag}

pub head_is : IsHead (open_text Tag.Page)
head_is = record {
  style = take (length (open_text Tag.Page) - length opening - length style_end) (drop (length opening) (open_text Tag.Page));
  is = refl;
  no_tag = refl;
}
