use Rattle.plm80_programs.proofs.Names.{◌≡◌, ℕ, ◌+◌, ◌++◌, ◌∙◌, List, length, flat_map, ap, arith, count_line}
use Rattle.verify80_explain.specs.declared.explaining_all.FurtherRefusals.{FurtherRefusals}
use Rattle.plm80_programs.specs.Explanations.{further_count, further_count_line, further_lines, limit_line}
use Rattle.plm80_programs.proofs.FurtherLemmas.{four_parts}
use Rattle.plm80_programs.proofs.all_refusals.text_of_all.Goals as goal

pub returns : goal.returns
returns c =
    let all = c.args.all.now in
    let own = c.in_ok-own.own in
    let lines = c.append_rest.new.text.items in
    let counted : c.len.result ≡ length all.shown.items = omega (arith, c.len.ensures, all.shown.ok.0) in
    let of : List FurtherRefusals → List ℕ = flat_map (further_lines c.args.image.now c.args.names.now) in
    record {
      shown = all.shown.items;
      are_all = all.are_all;
      further = all.further.items;
      are_all_further = all.are_all_further;
      own = own;
      lines = lines;
      in_order = c.requires.in_order;
      each = c.requires.shown;
      each_further = c.requires.further;
      rest = simp (c.deref-2.ensures.value, c.in_ok-append_limit.ensures, c.in_ok-text.ensures, c.deref.ensures.value) at c.in_ok-own.ensures;
      text_is = four_parts lines (count_line (length all.shown.items + own)) (of all.further.items) (limit_line all.are_all_further)
          (further_count_line (further_count all.further.items)) _ _ _ _
          (c.in_ok-append_count.ensures ∙ ap (λ (n : ℕ). lines ++ count_line (n + own)) counted)
          (c.in_ok-append_further.ensures ∙ ap (λ (l : List FurtherRefusals). c.append_count.new.text.items ++ of l) c.deref-3.ensures.value)
          c.in_ok-append_limit-2.ensures
          (c.in_ok-append_further_count.ensures ∙ ap (λ (l : List FurtherRefusals). c.append_limit-2.new.text.items ++ further_count_line (further_count l)) c.deref-4.ensures.value);
    }
