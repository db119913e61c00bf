-- The colours and lines of a picture, in CSS, and the head of an arrow (this project's own): looks alone.
use Rattle.std.specs.Prelude.{ℕ, List, ◌++◌, codes}

unfoldable pub looks : List ℕ
looks =
    codes "\">\n<style>text{font:11px monospace;fill:#222}.g{fill:#fff}.l,.t{stroke:#ddd;fill:none}"
    ++ codes ".s{stroke:#777;stroke-dasharray:2 4;fill:none}.a{fill:#777}.w{fill:#9fc3e8;stroke:#12467a;stroke-width:2}"
    ++ codes ".r{fill:#fff;stroke:#12467a;stroke-width:2}.f{fill:#fff;stroke:#7a4612;stroke-width:2;stroke-dasharray:4 3}"
    ++ codes ".j{stroke:#12467a;fill:none}circle{fill:#222}.n{fill:#fff;font-size:9px;text-anchor:middle}"
    ++ codes ".x{fill:none;stroke:#c00;stroke-width:5}.b{fill:none;stroke:#c00;stroke-width:3;stroke-dasharray:8 4}"
    ++ codes ".z{fill:#c00;font-weight:bold}.p{fill:none;stroke:#c00;stroke-width:2;marker-end:url(#p)}</style>\n"
    ++ codes "<marker id=\"p\" viewBox=\"0 0 8 8\" refX=\"8\" refY=\"4\" markerWidth=\"5\" markerHeight=\"5\" orient=\"auto\">"
    ++ codes "<path fill=\"#c00\" d=\"M0 0L8 4L0 8z\"/></marker>\n<rect class=\"g\" width=\"100%\" height=\"100%\"/>\n"
